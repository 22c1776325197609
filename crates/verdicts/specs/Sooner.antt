-- Of two answers of typing, that at lower configurations and that at one more, the one that comes first.
use Rattle.std.specs.Prelude.{Bool, cond, ◌&&◌, ◌||◌, ltb, eqb, Ok, Err}
use Rattle.report.specs.declared.Refusal.{Refusal}
use Rattle.report.specs.Verdicts.{Verdict}

-- s is of a lower form than r, or of an earlier phase of the same form: the number of a rule is lower than that of kinds
abbrev pub precedes : Refusal → Refusal → Bool
precedes s r = ltb s.place r.place || (eqb s.place r.place && ltb s.number r.number)

-- of the answers at lower configurations and at one more: by form, then by phase, then by configuration
abbrev pub sooner : Verdict → Verdict → Verdict
sooner (Ok tt) w = w
sooner (Err r) (Ok tt) = Err r
sooner (Err r) (Err s) = cond (precedes s r) (Err s) (Err r)
