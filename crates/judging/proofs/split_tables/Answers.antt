use Prim.Native.Nat.{ℕ, ◌-◌, ◌*◌, ◌/◌, ◌≤◌}
use mathlib.Core.Path.{◌≡◌, refl, sym, ap, ap₂, ◌∙◌}
use mathlib.Core.List.{List}
use native.Mathlib.Omega.{arith}
use lib.ListN.{length, take, drop}
use lib.Seq.{length-take-le}
use Rattle.report.specs.Tables.{Tables, relation_start, relations_end}
use Rattle.report.proofs.FormedFacts.{counts}
use Rattle.report.proofs.EntryParts.{split_in, words_from}
use Rattle.judging.specs.Judging.{SplitReads}
use Rattle.judging.proofs.split_tables.Goals as goal

module _ {T : Tables} {entries relations comparisons queries kinds : List ℕ} (R : SplitReads T entries relations comparisons queries kinds)
    {end : ℕ} (is : end ≡ relation_start relations (length relations / 2)) where
  -- where the lists of the relations end, by the words and by the tables
  end_is : end ≡ relations_end T
  end_is = is ∙ ap (λ (l : List ℕ). relation_start l (length l / 2)) R.relations_are

  -- table 1 can be split there
  inside : end * 2 ≤ length entries
  inside = let l = split_in R.formed end_is in let e = ap length R.entries_are in omega arith

-- the words of a slice from n on
part_from : (l : List ℕ) {n m : ℕ} → n ≡ m → take (length l - n) (drop n l) ≡ drop m l
part_from l {n} {m} e = ap (λ (k : ℕ). take (length l - k) (drop k l)) e ∙ words_from l m

pub relations_end-end-requires : goal.relations_end-end-requires
relations_end-end-requires c =
    let R = c.requires.reads in let m = (counts R.formed).most2 in let e = ap length R.relations_are in omega arith

pub overflow_mul-end : goal.overflow_mul-end
overflow_mul-end c = let l = inside c.requires.reads c.relations_end-end.ensures in omega arith

pub slice_bounds-result-end : goal.slice_bounds-result-end
slice_bounds-result-end c = sym (length-take-le (c.relations_end-end.result * 2) _ (inside c.requires.reads c.relations_end-end.ensures))

pub offset_bounds-entries-end : goal.offset_bounds-entries-end
offset_bounds-entries-end c = let l = inside c.requires.reads c.relations_end-end.ensures in omega arith

pub slice_bounds-result-count : goal.slice_bounds-result-count
slice_bounds-result-count c = let l = inside c.requires.reads c.relations_end-end.ensures in omega arith

pub slice_bounds-result-start : goal.slice_bounds-result-start
slice_bounds-result-start c = let l = inside c.requires.reads c.relations_end-end.ensures in omega arith

pub returns : goal.returns
returns c T R =
    let e = end_is R c.relations_end-end.ensures in
    record {
      rows_are = refl;
      relation_entries_are = ap₂ take (omega (arith, e)) R.entries_are;
      project_entries_are = part_from c.args.entries.now (omega (arith, e)) ∙ ap (drop (relations_end T * 2)) R.entries_are;
      relations_are = R.relations_are;
      comparisons_are = R.comparisons_are;
      queries_are = R.queries_are;
      kinds_are = R.kinds_are;
    }
