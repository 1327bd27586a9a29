-- Logs: what was truly heard, stretches and their pulses, and logs that are part of longer ones.
use Rattle.std.proofs.Common.{◌≡◌, ℕ, ◌+◌, true, false, List, [], ◌∷◌, ◌++◌, sym, refl, ap, ◌∙◌, subst, append_assoc, arith}
use Rattle.std.specs.List.{AllByRecursion}
use Rattle.register_map.specs.declared.hour_mode.HourMode.{HourMode}
use Rattle.timekeeping.specs.Logs.{Sight, Took, Held, Released, Wrote, Gave, Nothing, Machine, Heard, Log, hear, state_after, log_with, sights_of, sights_after, pulses_by, pulses_taken, held_by, is_held, is_release, Stretch, ShortStretches}
use Rattle.timekeeping.proofs.Keeping.{since_by}

module _ (m : Machine) (mode : HourMode) (start : m.State) where
  -- each answer of a log is the one that its call gave
  abbrev pub Truly : Log m → Type 0
  Truly [] = Unit {0}
  Truly (h ∷ log) = (h.answer ≡ (m.step (state_after m start log) h.call).0) × Truly log

  pub truly_with : (calls : List m.Call) (log : Log m) → Truly log → Truly (log_with m start log calls)
  unfolding log_with
  truly_with [] log t = t
  truly_with (call ∷ calls) log t = truly_with calls (hear m start log call ∷ log) (refl, t)

  pub truly_earlier : (later log : Log m) → Truly (later ++ log) → Truly log
  truly_earlier [] log t = t
  truly_earlier (h ∷ later) log t = truly_earlier later log t.1

  pub all_earlier : (P : Sight → Type 0) (later log : Log m) → AllByRecursion P (sights_of m mode (later ++ log)) → AllByRecursion P (sights_of m mode log)
  unfolding sights_of
  all_earlier P [] log a = a
  all_earlier P (h ∷ later) log a = all_earlier P later log a.1

  pub short_earlier : (later log : Log m) → ShortStretches m mode (later ++ log) → ShortStretches m mode log
  short_earlier later log short s =
      short (record {
        later = later ++ s.later;
        stretch = s.stretch;
        hold = s.hold;
        before = s.before;
        cut = ap (λ (l : Log m). later ++ l) s.cut ∙ sym (append_assoc later s.later (s.stretch ++ (s.hold ∷ s.before)));
        holds = s.holds;
        unreleased = s.unreleased;
      })

  -- the pulses heard since the last hold
  unfoldable pub since_hold : List Sight → ℕ
  since_hold [] = 0
  since_hold (x ∷ sights) = since_by x (since_hold sights)

  -- the stretch that is open while a core is held
  pub record Open (log : Log m) : Type 0 where
    pub stretch : Stretch m mode log
    pub newest : stretch.later ≡ []
    pub pulses : pulses_taken (sights_after m mode (stretch.hold ∷ stretch.before) stretch.stretch) ≡ since_hold (sights_of m mode log)

  -- a call that neither holds nor releases makes the open stretch longer
  longer : (h : Heard m.Call m.Answer) (log : Log m) → Open log → is_release (m.sight mode log h) ≡ false → pulses_by (m.sight mode log h) + since_hold (sights_of m mode log) ≡ since_by (m.sight mode log h) (since_hold (sights_of m mode log)) → Open (h ∷ log)
  unfolding sights_of sights_after since_hold pulses_taken
  longer h log o on counts =
      let s = o.stretch in
      let cut : log ≡ s.stretch ++ (s.hold ∷ s.before) = s.cut ∙ ap (λ (l : Log m). l ++ (s.stretch ++ (s.hold ∷ s.before))) o.newest in
      let On : Log m → Type 0 = λ l. is_release (m.sight mode l h) ≡ false in
      record {
        stretch = record {
          later = [];
          stretch = h ∷ s.stretch;
          hold = s.hold;
          before = s.before;
          cut = ap (λ (l : Log m). h ∷ l) cut;
          holds = s.holds;
          unreleased = (subst On cut on, s.unreleased);
        };
        newest = refl;
        pulses =
            ap (λ (l : Log m). pulses_by (m.sight mode l h) + pulses_taken (sights_after m mode (s.hold ∷ s.before) s.stretch)) (sym cut)
            ∙ ap (λ (n : ℕ). pulses_by (m.sight mode log h) + n) o.pulses
            ∙ counts;
      }

  pub open_stretch : (log : Log m) → is_held (sights_of m mode log) ≡ true → Open log
  unfolding sights_of is_held since_hold pulses_taken sights_after
  open_stretch [] e = let z : ◌≡◌ {A = ℕ} 0 1 = cc in absurd (omega arith)
  open_stretch (h ∷ log) e = by (m.sight mode log h) refl e (open_stretch log)
    where
      by : (x : Sight) → m.sight mode log h ≡ x → held_by x (is_held (sights_of m mode log)) ≡ true → (is_held (sights_of m mode log) ≡ true → Open log) → Open (h ∷ log)
      by (Took n) q f earlier = longer h log (earlier f) (ap is_release q) (ap (λ (y : Sight). pulses_by y + since_hold (sights_of m mode log)) q ∙ sym (ap (λ (y : Sight). since_by y (since_hold (sights_of m mode log))) q))
      by Held q f earlier =
          record {
            stretch = record { later = []; stretch = []; hold = h; before = log; cut = refl; holds = q; unreleased = tt };
            newest = refl;
            pulses = sym (ap (λ (y : Sight). since_by y (since_hold (sights_of m mode log))) q);
          }
      by Released q f earlier = let z : ◌≡◌ {A = ℕ} 0 1 = cc in absurd (omega arith)
      by Wrote q f earlier = longer h log (earlier f) (ap is_release q) (ap (λ (y : Sight). pulses_by y + since_hold (sights_of m mode log)) q ∙ sym (ap (λ (y : Sight). since_by y (since_hold (sights_of m mode log))) q))
      by (Gave b) q f earlier = longer h log (earlier f) (ap is_release q) (ap (λ (y : Sight). pulses_by y + since_hold (sights_of m mode log)) q ∙ sym (ap (λ (y : Sight). since_by y (since_hold (sights_of m mode log))) q))
      by Nothing q f earlier = longer h log (earlier f) (ap is_release q) (ap (λ (y : Sight). pulses_by y + since_hold (sights_of m mode log)) q ∙ sym (ap (λ (y : Sight). since_by y (since_hold (sights_of m mode log))) q))
