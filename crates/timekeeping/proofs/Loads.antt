-- An accepted load leaves a newly made core.
use Rattle.std.proofs.Common.{◌≡◌, ℕ, Bool, true, false, cond, ◌||◌, ltb, leb, Some, None, Ok, refl, arith, ltb-false, leb-false}
use Rattle.std.specs.Result.{is_err}
use Rattle.refusals.specs.declared.Refusal.TheVariants.{NoSuchMoment, NoSuchSetting}
use Rattle.register_map.specs.Chart.{Chart, Lawful, map_state}
use Rattle.register_map.specs.Modes.{mode_numbered}
use Rattle.clock_core.specs.Core.{CoreState, Accepted, mode_of, loaded, unless_refused, load_core}
use Rattle.timekeeping.specs.Law.{NewlyMade}

-- by what load refuses, test by test
loads_by : (c : Chart) → Lawful c → (s : CoreState) (moment weekday trim mode : ℕ) (late odd over wrong : Bool) → leb c.cycle moment ≡ late → ltb 6 weekday ≡ odd → ltb 127 trim ≡ over → ◌≡◌ {A = Accepted} (unless_refused s (loaded c moment weekday trim mode) (cond (late || odd) (Some NoSuchMoment) (cond (over || wrong) (Some NoSuchSetting) None))).0 (Ok tt) → NewlyMade c (unless_refused s (loaded c moment weekday trim mode) (cond (late || odd) (Some NoSuchMoment) (cond (over || wrong) (Some NoSuchSetting) None))).1
loads_by c law s moment weekday trim mode true odd over wrong a b d e = let z : ◌≡◌ {A = ℕ} 0 1 = cc in absurd (omega arith)
loads_by c law s moment weekday trim mode false true over wrong a b d e = let z : ◌≡◌ {A = ℕ} 0 1 = cc in absurd (omega arith)
loads_by c law s moment weekday trim mode false false true wrong a b d e = let z : ◌≡◌ {A = ℕ} 0 1 = cc in absurd (omega arith)
loads_by c law s moment weekday trim mode false false false true a b d e = let z : ◌≡◌ {A = ℕ} 0 1 = cc in absurd (omega arith)
loads_by c law s moment weekday trim mode false false false false a b d e =
    let early = leb-false _ _ a in
    let week = ltb-false _ _ b in
    let small = ltb-false _ _ d in
    record {
      map = map_state (c.code (mode_of mode) (record { moment = moment; weekday = weekday })) (mode_of mode);
      trim = trim;
      shown = record { moment = moment; weekday = weekday };
      shows = law.code_shows (mode_of mode) (record { moment = moment; weekday = weekday }) (record { in_cycle = early; in_week = omega arith });
      trim_in_range = omega arith;
      made = refl;
    }

pub loads_new : (c : Chart) → Lawful c → (s : CoreState) (moment weekday trim mode : ℕ) → ◌≡◌ {A = Accepted} (load_core c s moment weekday trim mode).0 (Ok tt) → NewlyMade c (load_core c s moment weekday trim mode).1
loads_new c law s moment weekday trim mode e =
    loads_by c law s moment weekday trim mode (leb c.cycle moment) (ltb 6 weekday) (ltb 127 trim) (is_err (mode_numbered mode)) refl refl refl e
