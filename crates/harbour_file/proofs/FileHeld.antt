-- The answer for a file by its length; and what it tells: the file, and that its tables stand at the start of the words left.
use Prim.Native.Nat.{ℕ, ◌≤◌, ◌<◌}
use mathlib.Core.Path.{◌≡◌, refl, sym, ap, ◌∙◌}
use mathlib.Core.Bool.{Bool, true, false, cond}
use mathlib.Core.List.{List}
use native.Mathlib.Decide.{dec_lt}
use native.Mathlib.Omega.{arith}
use lib.ListN.{length, take}
use lib.Seq.{take-append_seam}
use lib.Dec.{eqb}
use borrow.Author.Tests.{eqb-false}
use Rattle.report.specs.Tables.{Tables}
use Rattle.report.specs.Expressions.{tables_under}
use Rattle.report.specs.HarbourFile.{File, tables_from, file_of}
use Rattle.report.proofs.FileLaws.{file_long}
use Rattle.harbour_file.specs.declared.Sizes.{Sizes}
use Rattle.std.specs.Prelude.{Result, Ok, Err}
use Rattle.harbour_file.specs.declared.BadLine.{BadLine}
use Rattle.harbour_file.specs.Reading.{parts_from, file_parts, part_at, last_part, file_from}
use Rattle.harbour_file.specs.Filing.{head_of, FileWords, sizes_of, outcome_of, groups_left, file_left, Filed, Starts, Held}
use Rattle.harbour_file.proofs.GroupSteps.{lines_start, head_word, short_file, long_left, short_left}
use Rattle.harbour_file.proofs.FirstBadLine.{file_read}

-- ---- by the length of the text

module _ (s : List ℕ) (lent : FileWords) where
  pub filed_long : 65536 < length s → Filed (file_of s) (file_left s lent) (Err (record { number = 0 })) lent
  filed_long l = record { answers = sym (ap outcome_of (file_long s l)); stored = sym (long_left s lent l) }

  pub filed_short : length s ≤ 65536 → {answer : Result Sizes BadLine} {after : FileWords} → Filed (file_from s (file_parts s)) (groups_left s lent) answer after
      → Filed (file_of s) (file_left s lent) answer after
  filed_short l f = record {
    answers = f.answers ∙ ap outcome_of (sym (short_file s l) ∙ file_read s);
    stored = f.stored ∙ sym (short_left s lent l);
  }

-- ---- the tables of a file stand in what is left

module _ (s : List ℕ) (lent : FileWords) where
  abbrev read : Tables
  read = tables_from (λ g. (part_at (file_parts s) g).words)

  -- those of the parts, where there is a head
  parts_held : (length (part_at (file_parts s) 0).words ≡ 0 → ⊥) → Held read (sizes_of read) (groups_left s lent)
  unfolding groups_left file_parts parts_from
  parts_held some = record {
    lengths = refl;
    features = head_word s some lent.head 0 (omega arith);
    attributes = head_word s some lent.head 1 (omega arith);
    model = head_word s some lent.head 2 (omega arith);
    expressions_start = lines_start s _ _ _ _ _ lent.expressions;
    entries_start = lines_start s _ _ _ _ _ lent.entries;
    relations_start = lines_start s _ _ _ _ _ lent.relations;
    comparisons_start = lines_start s _ _ _ _ _ lent.comparisons;
    queries_start = lines_start s _ _ _ _ _ lent.queries;
    kinds_start = rw (head_word s some lent.head 1 (omega arith)) (take-append_seam _ _);
    worked = refl;
  }

  groups_held : {T : Tables} → file_from s (file_parts s) ≡ File.holds T → Held T (sizes_of T) (groups_left s lent)
  groups_held {T} = go (eqb (length (part_at (file_parts s) 0).words) 0) refl (eqb (last_part (file_parts s)).at (length s))
    where
      go : (b : Bool) → eqb (length (part_at (file_parts s) 0).words) 0 ≡ b → (b' : Bool)
          → cond b (File.unread 1) (cond b' (File.holds read) (File.unread (last_part (file_parts s)).line)) ≡ File.holds T
          → Held T (sizes_of T) (groups_left s lent)
      go true e b' f = cc
      go false e true f = let t : read ≡ T = cc in rw (← t) (parts_held (eqb-false (length (part_at (file_parts s) 0).words) 0 e))
      go false e false f = cc

  file_held : {T : Tables} → file_of s ≡ File.holds T → Held T (sizes_of T) (file_left s lent)
  file_held {T} e = go (dec_lt 65536 (length s))
    where
      go : Dec (65536 < length s) → Held T (sizes_of T) (file_left s lent)
      go (yes l) = absurd (let f = file_long s l in let z : ◌≡◌ {A = ℕ} 0 1 = cc in omega arith)
      go (no l) =
          let short : length s ≤ 65536 = omega arith in
          rw (short_left s lent short) (groups_held (sym (short_file s short) ∙ file_read s ∙ e))

-- ---- what a caller is told

module _ (s : List ℕ) (lent : FileWords) {answer : Result Sizes BadLine} {after : FileWords} (f : Filed (file_of s) (file_left s lent) answer after) where
  pub bad_told : {b : BadLine} → answer ≡ Err b → file_of s ≡ File.unread b.number
  bad_told {b} q = go (file_of s) (sym f.answers ∙ q)
    where
      go : (file : File) → outcome_of file ≡ Err b → file ≡ File.unread b.number
      go (File.unread m) e = cc
      go (File.holds T) e = cc

  pub read_told : {sizes : Sizes} → answer ≡ Ok sizes → (T : Tables) × (file_of s ≡ File.holds T) × Held T sizes after
  read_told {sizes} q = go (file_of s) refl (sym f.answers ∙ q)
    where
      go : (file : File) → file_of s ≡ file → outcome_of file ≡ Ok sizes → (T : Tables) × (file_of s ≡ File.holds T) × Held T sizes after
      go (File.unread m) h e = cc
      go (File.holds T) h e = let own : sizes_of T ≡ sizes = cc in (T, h, rw (← own, f.stored) (file_held s lent h))

-- ---- the tables, from the words that were read

-- so many of the first words of a table are these
pub record Words (table : List ℕ) (n : ℕ) (words : List ℕ) : Type 0 where
  pub long : n ≡ length (take n table)
  pub same : take n table ≡ words

words_at : {table words : List ℕ} {n : ℕ} → Starts table words → n ≡ length words → Words table n words
words_at {table} {words} {n} e l = let s : take n table ≡ words = rw l e in record { long = l ∙ ap length (sym s); same = s }

module _ {T : Tables} {sizes : Sizes} {left : FileWords} (H : Held T sizes left) where
  pub expressions_held : Words left.expressions sizes.expressions T.expressions
  expressions_held = words_at H.expressions_start (ap (λ (s : Sizes). s.expressions) H.lengths)

  pub entries_held : Words left.entries sizes.entries T.entries
  entries_held = words_at H.entries_start (ap (λ (s : Sizes). s.entries) H.lengths)

  pub relations_held : Words left.relations sizes.relations T.relations
  relations_held = words_at H.relations_start (ap (λ (s : Sizes). s.relations) H.lengths)

  pub comparisons_held : Words left.comparisons sizes.comparisons T.comparisons
  comparisons_held = words_at H.comparisons_start (ap (λ (s : Sizes). s.comparisons) H.lengths)

  pub queries_held : Words left.queries sizes.queries T.queries
  queries_held = words_at H.queries_start (ap (λ (s : Sizes). s.queries) H.lengths)

  pub kinds_held : Words left.kinds sizes.kinds T.kinds
  kinds_held = words_at H.kinds_start (ap (λ (s : Sizes). s.kinds) H.lengths)

  -- the tables are the words read
  pub held_tables : tables_under (head_of left.head) (take sizes.expressions left.expressions) (take sizes.entries left.entries)
      (take sizes.relations left.relations) (take sizes.comparisons left.comparisons) (take sizes.queries left.queries)
      (take sizes.kinds left.kinds) ≡ T
  held_tables =
      rw (
        H.features,
        H.attributes,
        H.model,
        expressions_held.same,
        entries_held.same,
        relations_held.same,
        comparisons_held.same,
        queries_held.same,
        kinds_held.same,
        ← H.worked,
      )
