-- Wish 3, of the call `write_page`: each theorem takes what its promise says (`PageWritten` in wall_page/specs/Page), for every set of tables T, reading and
-- bytes lent. The terms are those of Demands, and those of specs/PageLines.
use Rattle.std.specs.Prelude.{Ok, Err}
use Prim.Native.Nat.{ℕ, ◌+◌, ◌*◌, ◌≤◌, ◌<◌}
use mathlib.Core.Path.{◌≡◌, refl, sym, ap, ap₂, ◌∙◌}
use mathlib.Core.Bool.{Bool, true, false}
use mathlib.Core.List.{List, ◌++◌}
use mathlib.Core.Logic.{◌↔◌}
use native.Mathlib.Omega.{arith}
use borrow.Author.Tests.{ltb-true, ltb-false, lt-ltb, le-ltb}
use lib.Dec.{ltb}
use lib.ListN.{length, get_or, drop, length-append, length-drop, get_or-append}
use lib.Seq.{drop-append_seam}
use Rattle.sets.specs.Search.{count_below}
use Rattle.sets.specs.Bits.{bit}
use Rattle.sets.specs.Rows.{row_bit, row_in}
use Rattle.sets.proofs.ListLaws.{table_of}
use Rattle.sets.proofs.SearchLaws.{count_lt, nth}
use Rattle.sets.proofs.BitLaws.{bit-bits_of}
use Rattle.report.specs.Tables.{Tables, kind_of, report}
use Rattle.report.specs.Expressions.{configurations, permitted}
use Rattle.report.specs.Typing.{set_of}
use Rattle.report.specs.ColumnRows.{shown}
use Rattle.report.specs.Rules.{Rules}
use Rattle.report.specs.PlainAlgebra.{passes}
use Rattle.report.specs.ConfiguredReport.{configured_report, configured_schema}
use Rattle.report.specs.Configuring.{written}
use Rattle.report.specs.Verdicts.{Verdict, refusal, refuse_if, after, ◌gives◌, Foremost}
use Rattle.report.specs.Checks.{is_early, is_typing_fault}
use Rattle.report.specs.Calls.{Call, whole, conditions, answer, Sound, GetsAsFarAsTyping, OwnNumbers}
use Rattle.report.specs.Formed.{Formed}
use Rattle.report.specs.TypingFaults.{Broken, Named}
use Rattle.report.specs.GivenDemands.{PassesThroughout}
use Rattle.report.specs.declared.Refusal.{Refusal}
use Rattle.report.specs.declared.Reading.{Reading}
use Rattle.report.proofs.VerdictLaws.{accepted_not_refused, if_accepted, then_next}
use Rattle.report.proofs.FirstFault.{first_none, first_one}
use Rattle.report.proofs.CallLaws.{given_answer, own_gets}
use Rattle.report.proofs.ReachLaws.{reached-report}
use Rattle.report.proofs.RulesLaws.{rules_sets}
use Rattle.report.proofs.TypingLaws.{permitted_within, permitted_1024}
use Rattle.report.proofs.Refusing.{own_early}
use Rattle.report.proofs.WrittenAccepted.{called_sound, called_typed, called_own, called_formed, called_passes, called_columns}
use Rattle.checking.specs.Promises.{Checks}
use Rattle.printing.specs.Page.{aligned, mark, page_line, page}
use Rattle.printing.proofs.PageLineLaws.{line-length}
use Rattle.printing.proofs.PageLineBytes.{line_configuration, line_mark, line_marks, line_number, line_space, line_space2, line_feed}
use Rattle.printing.proofs.PageLaws.{page_byte}
use Rattle.wall_page.specs.Page.{PageAnswer, line_count, writing_page, page_answer, PageWritten, is_page_fault}
use Rattle.wall_page.proofs.PageLaws.{page-length}
use Rattle.demands.specs.FoundConfiguration.{columns_at}
use Rattle.demands.specs.PageLines.{line_of, line_at, LineShows, PageShows}
use Rattle.demands.proofs.Demands.{call_foremost, call_unchanged, found_afterwards, call_refuses, call_names, call_never}

-- ---- one line

mark_present : (b : Bool) → (mark b ≡ 111) ↔ (b ≡ true)
mark_present true = (λ e. refl, λ e. refl)
mark_present false = (λ e. absurd (omega arith), λ e. cc)

mark_absent : (b : Bool) → (mark b ≡ 46) ↔ (b ≡ false)
mark_absent true = (λ e. absurd (omega arith), λ e. cc)
mark_absent false = (λ e. refl, λ e. refl)

-- "exactly 72 characters and a line feed", each in its place
pub line_shows : (c set : ℕ) → c < 1024 → LineShows c set (page_line c set)
line_shows c set h = record {
  configuration = line_configuration c set h;
  space = line_space c set h;
  present = λ a l. rw (line_mark c set h a l) (mark_present (bit set a));
  absent = λ a l. rw (line_mark c set h a l) (mark_absent (bit set a));
  space2 = line_space2 c set h;
  number = line_number c set h ∙ ap (aligned 2) (sym (line_marks c set h));
  feed = line_feed c set h;
  long = line-length c set h;
}

-- ---- the answer's parts

lines_part : {n : ℕ} (v : Verdict) (lines : ℕ) → Ok n ≡ page_answer v lines → (v ≡ Ok tt) × (n ≡ lines)
lines_part (Ok tt) lines e = (refl, cc)
lines_part (Err x) lines e = absurd (let z : ◌≡◌ {A = ℕ} 0 1 = cc in omega arith)

refused_part : {x : Refusal} (v : Verdict) (lines : ℕ) → Err x ≡ page_answer v lines → v ≡ Err x
refused_part (Ok tt) lines e = absurd (let z : ◌≡◌ {A = ℕ} 0 1 = cc in omega arith)
refused_part (Err x) lines e = cc

module _ (T : Tables) (R : Reading) (lent : List ℕ) (r : PageAnswer) (bytes : List ℕ) (writes : PageWritten T R lent r bytes) where
  abbrev call : Call
  call = writing_page (length lent)

  told_by : {v : Verdict} → answer T R call ≡ v → r ≡ page_answer v (line_count T)
  told_by e = writes.answers ∙ ap (λ (v : Verdict). page_answer v (line_count T)) e

  refused_answer : {x : Refusal} → r ≡ Err x → answer T R call ≡ Err x
  refused_answer e = refused_part (answer T R call) (line_count T) (sym e ∙ writes.answers)

  lines_answer : {n : ℕ} → r ≡ Ok n → (answer T R call ≡ Ok tt) × (n ≡ line_count T)
  lines_answer e = lines_part (answer T R call) (line_count T) (sym e ∙ writes.answers)

  -- ---- demand 1: it is refused exactly by the first of its conditions that hold, and a refused call changes no byte

  pub page_says : (x : Refusal) → (r ≡ Err x) ↔ (answer T R call ≡ Err x)
  page_says x = (refused_answer, told_by)

  pub page_foremost : (x : Refusal) → (r ≡ Err x) ↔ Foremost (conditions T R call) x
  page_foremost = call_foremost T R call Err page_says

  pub page_unchanged : (x : Refusal) → r ≡ Err x → bytes ≡ lent
  page_unchanged = call_unchanged T R call Err page_says (written (page T) lent) writes.stored

  -- ---- the lines

  -- "return the number of lines"
  pub page_lines : {n : ℕ} → r ≡ Ok n → n ≡ count_below (permitted T) (configurations T)
  unfolding line_count
  page_lines e = (lines_answer e).1

  module _ (accepted : answer T R call ≡ Ok tt) where
    F : Formed T
    F = called_formed T R call accepted

    left : bytes ≡ page T ++ drop (length (page T)) lent
    left = writes.stored ∙ ap (λ (v : Verdict). after v (written (page T) lent) lent) accepted

    enough : 73 * line_count T ≤ length lent
    enough =
        ltb-false (length lent) (73 * line_count T)
        (if_accepted (ltb (length lent) (73 * line_count T)) (refusal 23 0 0 0)
        (sym (first_one (ltb (length lent) (73 * line_count T)) (refusal 23 0 0 0)) ∙ called_own T R call accepted))

    below : (c : ℕ) → permitted T c ≡ true → line_of T c < line_count T
    unfolding line_count
    below c e = count_lt (permitted T) c (configurations T) (permitted_within T c e) e

    some : (k : ℕ) → k < line_count T → (c : ℕ) × (permitted T c ≡ true) × (line_of T c ≡ k)
    unfolding line_count
    some k h = let n = nth (permitted T) (configurations T) k h in (n.old, n.passed, n.number)

    line_is : (c : ℕ) → permitted T c ≡ true → page_line c (set_of T c (report T)) ≡ line_at bytes (line_of T c)
    line_is c e =
        table_of 0 73 (λ j. get_or bytes (line_of T c * 73 + j) 0) (page_line c (set_of T c (report T)))
        (line-length c (set_of T c (report T)) (permitted_1024 F c e))
        (λ j h.
        sym
        (ap (λ (l : List ℕ). get_or l (line_of T c * 73 + j) 0) left
        ∙ get_or-append (page T) (drop (length (page T)) lent) 0 (line_of T c * 73 + j) (omega (arith, page-length F, below c e))
        ∙ page_byte F c j e h))

    -- of sets that are the report's at each permitted configuration
    shows : {set : ℕ → ℕ} → ((c : ℕ) → permitted T c ≡ true → set_of T c (report T) ≡ set c) → PageShows T set lent (line_count T) bytes
    shows {set} same = record {
      line = λ c e. (below c e, rw (← line_is c e, ← same c e) (line_shows c (set_of T c (report T)) (permitted_1024 F c e)));
      all = some;
      ascending = λ c d e l. count_lt (permitted T) c d l e;
      after =
          rw (← page-length F)
          (ap (drop (length (page T))) left ∙ drop-append_seam (page T) (drop (length (page T)) lent));
      long =
          ap length left ∙ length-append (page T) (drop (length (page T)) lent)
          ∙ omega (arith, length-drop (length (page T)) lent, page-length F, enough);
    }

  -- of sets that are the report's wherever the call accepts
  page_in : {set : ℕ → ℕ} → (answer T R call ≡ Ok tt → (c : ℕ) → permitted T c ≡ true → set_of T c (report T) ≡ set c) → {n : ℕ}
      → r ≡ Ok n → PageShows T set lent n bytes
  page_in {set} same e =
      let p = lines_answer e in rw p.1 (shows p.0 (same p.0))

  -- written: the line of each permitted configuration shows the columns of the report configured there, which passes the plain rules
  pub page_shows : {n : ℕ} → r ≡ Ok n → PageShows T (columns_at T R) lent n bytes
  page_shows = page_in (λ a c p. sym (called_columns T R call a c p))

  pub page-passes : {n : ℕ} → r ≡ Ok n → (c : ℕ) → permitted T c ≡ true → passes (kind_of T) (configured_schema T c) (configured_report T c R) ≡ true
  page-passes e c p = called_passes T R call (lines_answer e).0 c p

  -- the same of any sets that keep the typing rules
  pub page_ruled : (S : ℕ → ℕ → ℕ) → ((c : ℕ) → permitted T c ≡ true → Rules T c (S c)) → {n : ℕ} → r ≡ Ok n
      → PageShows T (λ c. S c (report T)) lent n bytes
  page_ruled S keep =
      page_in (λ a c p.
      let F = called_formed T R call a in sym (rules_sets F c p (S c) (keep c p) (report T) (reached-report F c p)).0)

  -- ---- after a check that accepted, and left these rows

  module _ (rows rows' : List ℕ) (checks : Checks T R rows (Ok tt) rows') where
    shown-set : answer T R call ≡ Ok tt → (c : ℕ) → permitted T c ≡ true → set_of T c (report T) ≡ shown rows' c
    shown-set a c p = sym (called_columns T R call a c p) ∙ (found_afterwards T R rows rows' checks c p).1

    -- "every mark agrees with its row bit": in the line of c, byte 5 + a is `o` exactly where row a has bit c, and `.` exactly where it has not
    pub page_rows : {n : ℕ} → r ≡ Ok n → (c a : ℕ) → permitted T c ≡ true → a < 64
        → ((get_or (line_at bytes (line_of T c)) (5 + a) 0 ≡ 111) ↔ (row_bit (row_in 16 rows' a) c ≡ true))
        × ((get_or (line_at bytes (line_of T c)) (5 + a) 0 ≡ 46) ↔ (row_bit (row_in 16 rows' a) c ≡ false))
    page_rows e c a p h =
        let l = ((page_in shown-set e).line c p).1 in
        let same = bit-bits_of 64 (λ k. row_bit (row_in 16 rows' k) c) a h in
        (rw same at (l.present a h), rw same at (l.absent a h))

    -- "23 the lent page is shorter than 73 × the number of lines, checked after 19": it is refused for that alone, and else written
    page_late : answer T R call ≡ refuse_if (ltb (length lent) (73 * line_count T)) (refusal 23 0 0 0)
    page_late =
        given_answer (whole T) R call ((own_gets (whole T) call (called_sound T R _ (sym checks.0))).1 first_none)
        ∙ then_next (called_typed T R _ (sym checks.0)) ∙ first_one _ _

    pub page_refused : (x : Refusal) → (r ≡ Err x) ↔ ((x ≡ refusal 23 0 0 0) × (length lent < 73 * line_count T))
    page_refused x = (
      λ e. go (ltb (length lent) (73 * line_count T)) refl (sym page_late ∙ refused_answer e),
      λ q. told_by (page_late ∙ ap₂ refuse_if (lt-ltb (length lent) (73 * line_count T) q.1) (sym q.0)),
    )
      where
        go : (b : Bool) → ltb (length lent) (73 * line_count T) ≡ b → refuse_if b (refusal 23 0 0 0) ≡ Err x
            → (x ≡ refusal 23 0 0 0) × (length lent < 73 * line_count T)
        go true s e = (cc, ltb-true (length lent) (73 * line_count T) s)
        go false s e = accepted_not_refused e refl

    pub page-written : (r ≡ Ok (line_count T)) ↔ (73 * line_count T ≤ length lent)
    page-written = (
      λ e. enough (lines_answer e).0,
      λ h. told_by (page_late ∙ ap (λ (b : Bool). refuse_if b (refusal 23 0 0 0)) (le-ltb (length lent) (73 * line_count T) h)),
    )

-- ---- demand 1: the early refusals say that the tables are not sound; and demand 3, of the call `write_page`

pub page_own : (room : ℕ) → OwnNumbers (writing_page room)
unfolding ◌gives◌
page_own room = record { early = λ T. refl; late = λ T. refl }

pub page_early : (T : Tables) (R : Reading) (room : ℕ)
    → ((r : Refusal) × (answer T R (writing_page room) ≡ Err r) × (is_early r.number ≡ true)) ↔ (Sound T → ⊥)
page_early T R room = own_early T R (page_own room) first_none

module _ (T : Tables) (sound : Sound T) (lent : List ℕ) where
  -- on sound tables it gets as far as typing, whatever is lent
  pub which_page : GetsAsFarAsTyping T (writing_page (length lent))
  which_page = (own_gets (whole T) (writing_page (length lent)) sound).1 first_none

  page_fault : {R : Reading} {r : PageAnswer} {bytes : List ℕ} → PageWritten T R lent r bytes
      → is_page_fault r ≡ is_typing_fault (answer T R (writing_page (length lent)))
  page_fault {R} writes = ap is_page_fault writes.answers ∙ go (answer T R (writing_page (length lent)))
    where
      go : (v : Verdict) → is_page_fault (page_answer v (line_count T)) ≡ is_typing_fault v
      go (Ok tt) = refl
      go (Err x) = refl

  -- in the strict reading
  module _ (r : PageAnswer) (bytes : List ℕ) (writes : PageWritten T Reading.Strict lent r bytes) where
    pub page_refuses : (is_page_fault r ≡ true) ↔ Broken T
    page_refuses = call_refuses T (page_own (length lent)) which_page (page_fault writes)

    pub page_names : is_page_fault r ≡ true → (n : Named T (writing_page (length lent))) × (r ≡ Err n.refuses)
    page_names e =
        let n = call_names T (page_own (length lent)) which_page (page_fault writes) e in (n, told_by T Reading.Strict lent r bytes writes n.answers)

    pub page_never : PassesThroughout T → is_page_fault r ≡ false
    page_never = call_never T (page_own (length lent)) which_page (page_fault writes)
