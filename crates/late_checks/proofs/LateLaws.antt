-- How the tests of 20 and 21 make their answer.
use Rattle.std.specs.Prelude.{Err}
use Prim.Native.Nat.{ℕ, ◌+◌, ◌^◌, ◌≤◌, ◌<◌}
use mathlib.Core.Path.{◌≡◌, sym, ap, ◌∙◌}
use mathlib.Core.Bool.{Bool, true, false, not, ◌&&◌}
use mathlib.Core.List.{List, ◌++◌}
use native.Mathlib.Decide.{dec_lt}
use native.Mathlib.Omega.{arith}
use borrow.Author.Tests.{lt-ltb, le-ltb}
use lib.Dec.{ltb}
use lib.Pow.{pow_mono}
use lib.ListN.{length, length-append}
use Rattle.sets.specs.Rows.{row_bit, row_of}
use Rattle.sets.proofs.RowLaws.{row_bit-row_of, within_out}
use Rattle.report.specs.Tables.{Tables}
use Rattle.report.specs.Expressions.{permitted}
use Rattle.report.specs.Verdicts.{Verdict, refusal, refuse_if, or_else, first_of}
use Rattle.report.specs.Calls.{permitted_condition, room_conditions}
use Rattle.report.proofs.VerdictLaws.{then_next, accepted_if}
use Rattle.report.proofs.FirstFault.{first_room, first_own}
use Rattle.expression_rows.specs.declared.SplitTables.{SplitTables}
use Rattle.late_checks.specs.declared.LentWords.{LentWords}
use Rattle.late_checks.specs.LateReads.{SourceReads, LateReads}

-- ---- 20

-- the permitted configurations are below 1,024, so a larger number is none of them
told_permitted : (T : Tables) → T.features ≤ 10 → {permits : List ℕ} → permits ≡ row_of 16 (permitted T) → (c : ℕ)
    → (ltb c 1024 && row_bit permits c) ≡ permitted T c
unfolding permitted
told_permitted T few {permits} e c = go (dec_lt c 1024)
  where
    go : Dec (c < 1024) → (ltb c 1024 && row_bit permits c) ≡ permitted T c
    go (yes h) = rw (lt-ltb c 1024 h) (ap (λ (l : List ℕ). row_bit l c) e ∙ row_bit-row_of 16 (permitted T) c h)
    go (no h) =
        let m : 2 ^ T.features ≤ 1024 = pow_mono few in
        rw (le-ltb c 1024 (omega arith)) (sym (within_out T.features (λ d. T.truth d T.model) c (omega arith)))

-- ---- 21

module _ {T : Tables} (split : SplitTables)
    (R : SourceReads T (split.relation_entries.now ++ split.project_entries.now) split.relations.now split.comparisons.now split.queries.now)
    (lent : LentWords) where
  -- the four tests, one after another
  pub room_answers : {v : Verdict}
      → v ≡ or_else (refuse_if (ltb lent.entries (length split.relation_entries.now + length split.project_entries.now)) (refusal 21 1 0 0))
      (or_else (refuse_if (ltb lent.relations (length split.relations.now)) (refusal 21 2 0 0))
      (or_else (refuse_if (ltb lent.comparisons (length split.comparisons.now)) (refusal 21 3 0 0))
      (refuse_if (ltb lent.queries (length split.queries.now)) (refusal 21 4 0 0))))
      → v ≡ first_of (room_conditions lent.entries lent.relations lent.comparisons lent.queries T)
  room_answers e =
      (rw (sym (length-append split.relation_entries.now split.project_entries.now), R.entries_are, R.relations_are, R.comparisons_are, R.queries_are) at e)
      ∙ sym (first_room T lent.entries lent.relations lent.comparisons lent.queries)

-- ---- 20 and 21

module _ {T : Tables} {permits entries relations comparisons queries : List ℕ} (R : LateReads T permits entries relations comparisons queries) (c : ℕ)
    (lent : LentWords) where
  abbrev room : Verdict
  room = first_of (room_conditions lent.entries lent.relations lent.comparisons lent.queries T)

  abbrev late : Verdict
  late = first_of (permitted_condition c T ++ room_conditions lent.entries lent.relations lent.comparisons lent.queries T)

  abbrev permitted_check : Verdict
  permitted_check = refuse_if (not (permitted T c)) (refusal 20 0 0 c)

  late_parts : late ≡ or_else permitted_check room
  late_parts = first_own T c lent.entries lent.relations lent.comparisons lent.queries

  module _ {told : Bool} (tells : told ≡ (ltb c 1024 && row_bit permits c)) where
    is_told : told ≡ permitted T c
    is_told = tells ∙ told_permitted T R.few R.permitting c

    pub late_refuses : not told ≡ true → Err (refusal 20 0 0 c) ≡ late
    late_refuses f =
        let own : Err (refusal 20 0 0 c) ≡ permitted_check = ap (λ (b : Bool). refuse_if b (refusal 20 0 0 c)) (sym f ∙ ap not is_told) in
        ap (λ (v : Verdict). or_else v room) own ∙ sym late_parts

    pub room_decides : not told ≡ false → {w : Verdict} → w ≡ room → w ≡ late
    room_decides f e = e ∙ sym (then_next (accepted_if (refusal 20 0 0 c) (ap not (sym is_told) ∙ f))) ∙ sym late_parts
