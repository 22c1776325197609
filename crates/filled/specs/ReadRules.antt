-- docs/FORMAT.md, "Readings": the typing rules of each reading, row by row, of any sets S: S c q is the set that query
-- form q is given at c. In the strict reading the rule at c is of the sets at c alone (report/specs/Rules). In the filled one the rules of a relation and
-- of a project ask for a configuration at which what they want is found; it need not be c.
use Rattle.std.specs.Prelude.{ℕ, ◌≡◌, true, cond}
use Rattle.std.specs.Int.Bits.{bit_and}
use Rattle.sets.specs.Bits.{bit}
use Rattle.report.specs.Tables.{Tables, query}
use Rattle.report.specs.Typing.{reached, present, relation_set, project_set}
use Rattle.report.specs.Rules.{Rule}
use Rattle.report.specs.declared.Query.{Query}
use Rattle.report.specs.declared.Reading.{Reading}

module _ (T : Tables) (S : ℕ → ℕ → ℕ) where
  -- relation form q is reached and present somewhere
  pub record Present (q a : ℕ) : Type 0 where
    pub place : ℕ
    pub reaches : reached T place q ≡ true
    pub is_present : present T place a ≡ true

  -- the joined list of project form q, of `count` entries over the operand b, has attribute x, and so has the operand, at some place that reaches q
  pub record Held (q count b x : ℕ) : Type 0 where
    pub place : ℕ
    pub reaches : reached T place q ≡ true
    pub listed : bit (project_set T place q count) x ≡ true
    pub has : bit (S place b) x ≡ true

  abbrev pub FilledRule : ℕ → ℕ → Query → Type 0
  FilledRule c q Query.Malformed = ⊥
  FilledRule c q Query.Empty = Rule T c (S c) q Query.Empty
  -- relation: it is present somewhere that reaches the form; its joined list where present, and elsewhere nothing
  FilledRule c q (Query.Relation a) = Present q a × (S c q ≡ cond (present T c a) (relation_set T c a) 0)
  FilledRule c q (Query.Select a b) = Rule T c (S c) q (Query.Select a b)
  -- project: each attribute of its joined list is, somewhere that reaches the form and where the list has it, in the operand's set; those attributes of
  -- the list that the operand has
  FilledRule c q (Query.Project a b) =
      ((x : ℕ) → bit (project_set T c q a) x ≡ true → Held q a b x) × (S c q ≡ bit_and (project_set T c q a) (S c b))
  FilledRule c q (Query.Choice a b d) = Rule T c (S c) q (Query.Choice a b d)
  FilledRule c q (Query.Product a b) = Rule T c (S c) q (Query.Product a b)
  FilledRule c q (Query.Union a b) = Rule T c (S c) q (Query.Union a b)
  FilledRule c q (Query.Intersection a b) = Rule T c (S c) q (Query.Intersection a b)

  abbrev pub RuleBy : Reading → ℕ → ℕ → Query → Type 0
  RuleBy Reading.Strict c q y = Rule T c (S c) q y
  RuleBy Reading.Filled c q y = FilledRule c q y

  -- every form keeps its rule at each configuration that reaches it
  abbrev pub RulesBy : Reading → Type 0
  RulesBy R = (c q : ℕ) → reached T c q ≡ true → RuleBy R c q (query T.queries q)
