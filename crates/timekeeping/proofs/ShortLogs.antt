-- A test that tells logs without a long held stretch.
use Rattle.std.proofs.Common.{◌≡◌, ℕ, ◌+◌, ◌≤◌, Bool, true, false, ◌&&◌, leb, List, [], ◌∷◌, ◌++◌, sym, refl, ap, ◌∙◌, arith, leb-true}
use Rattle.std.specs.List.{AllByRecursion}
use Rattle.register_map.specs.declared.hour_mode.HourMode.{HourMode}
use Rattle.timekeeping.specs.Logs.{Sight, Took, Held, Released, Wrote, Gave, Nothing, Machine, Log, sights_of, sights_after, pulses_by, pulses_taken, is_release, ShortStretches}

-- the pulses since the last release: at least those of the open stretch
abbrev pub unreleased_by : Sight → ℕ → ℕ
unreleased_by (Took n) before = n + before
unreleased_by Held before = before
unreleased_by Released before = 0
unreleased_by Wrote before = before
unreleased_by (Gave _) before = before
unreleased_by Nothing before = before

unfoldable pub unreleased_pulses : List Sight → ℕ
unreleased_pulses [] = 0
unreleased_pulses (x ∷ sights) = unreleased_by x (unreleased_pulses sights)

-- at no time were there more than 32,644
unfoldable pub all_short : List Sight → Bool
all_short [] = true
all_short (x ∷ sights) = leb (unreleased_pulses (x ∷ sights)) 32644 && all_short sights

counts_one : (x : Sight) (n more : ℕ) → is_release x ≡ false → n ≤ more → pulses_by x + n ≤ unreleased_by x more
counts_one (Took k) n more on h = omega arith
counts_one Held n more on h = omega arith
counts_one Released n more on h = let z : ◌≡◌ {A = ℕ} 0 1 = cc in absurd (omega arith)
counts_one Wrote n more on h = omega arith
counts_one (Gave b) n more on h = omega arith
counts_one Nothing n more on h = omega arith

and_left : (a b : Bool) → (a && b) ≡ true → a ≡ true
and_left true b e = refl
and_left false b e = e

and_right : (a b : Bool) → (a && b) ≡ true → b ≡ true
and_right true b e = e
and_right false b e = cc

module _ (m : Machine) (mode : HourMode) where
  stretch_counts : (stretch rest : Log m) → AllByRecursion (λ x. is_release x ≡ false) (sights_after m mode rest stretch) → pulses_taken (sights_after m mode rest stretch) ≤ unreleased_pulses (sights_of m mode (stretch ++ rest))
  unfolding unreleased_pulses pulses_taken sights_of sights_after
  stretch_counts [] rest on = omega arith
  stretch_counts (h ∷ stretch) rest on = counts_one (m.sight mode (stretch ++ rest) h) _ _ on.0 (stretch_counts stretch rest on.1)

  short_at : (later log : Log m) → all_short (sights_of m mode (later ++ log)) ≡ true → unreleased_pulses (sights_of m mode log) ≤ 32644
  unfolding all_short unreleased_pulses sights_of
  short_at [] [] t = omega arith
  short_at [] (h ∷ log) t = leb-true _ _ (and_left _ (all_short (sights_of m mode log)) t)
  short_at (x ∷ later) log t = short_at later log (and_right (leb (unreleased_pulses (sights_of m mode (x ∷ (later ++ log)))) 32644) _ t)

  pub short_by_test : (log : Log m) → all_short (sights_of m mode log) ≡ true → ShortStretches m mode log
  short_by_test log t s =
      let part : Log m = s.stretch ++ (s.hold ∷ s.before) in
      let few = short_at s.later part (ap (λ (l : Log m). all_short (sights_of m mode l)) (sym s.cut) ∙ t) in
      let counted = stretch_counts s.stretch (s.hold ∷ s.before) s.unreleased in
      omega arith
