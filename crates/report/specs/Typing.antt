-- docs/FORMAT.md, "Typing rules", at one configuration c: what reaches each query form, its set of attributes, and what breaks its rule.
use Rattle.std.specs.Prelude.{ℕ, zero, suc, ◌+◌, ◌^◌, Bool, false, cond, ◌&&◌, ◌||◌, not, ltb, eqb}
use Rattle.std.specs.Int.Bits.{bit_and, bit_or, bit_xor}
use Rattle.sets.specs.Bits.{difference}
use Rattle.report.specs.Values.{value}
use Rattle.report.specs.Tables.{Tables, entry_attribute, entry_expression, relation_expression, relation_length, comparison, query}
use Rattle.report.specs.Tables.{kind_of, relation_count, report, relation_start, project_start}
use Rattle.report.specs.Operands.{comparison_operands, query_operands, comparison_sides}
use Rattle.report.specs.Expressions.{permitted}
use Rattle.report.specs.declared.Comparison.{Comparison}
use Rattle.report.specs.declared.Query.{Query}
use Rattle.report.specs.declared.Operands.{Operands}
use Rattle.report.specs.declared.Sides.{Sides}

-- ---- one comparison by itself, by its sides

-- the attributes that it names
abbrev pub names_of : Sides → ℕ
names_of (Sides.Constant a k) = 2 ^ a
names_of (Sides.Attributes a b) = bit_or (2 ^ a) (2 ^ b)
names_of Sides.Neither = 0

-- its sides have two kinds, where `kind` gives those of the attributes
abbrev pub kinds_differ : (ℕ → ℕ) → Sides → Bool
kinds_differ kind (Sides.Constant a k) = not (eqb (kind a) k)
kinds_differ kind (Sides.Attributes a b) = not (eqb (kind a) (kind b))
kinds_differ kind Sides.Neither = false

-- its left attribute
abbrev pub left_of : Sides → ℕ
left_of (Sides.Constant a k) = 2 ^ a
left_of (Sides.Attributes a b) = 2 ^ a
left_of Sides.Neither = 0

-- the left attribute, if the sides have two kinds
abbrev pub clash_of : (ℕ → ℕ) → Sides → ℕ
clash_of kind s = cond (kinds_differ kind s) (left_of s) 0

-- how many phases there are in which a form is searched for faults
abbrev pub phases : ℕ
phases = 2

module _ (T : Tables) (c : ℕ) where
  -- expression e holds at c
  abbrev pub at : ℕ → Bool
  at e = T.truth c e

  -- which of two alternatives a choice on expression e takes at c
  abbrev pub taken : ℕ → ℕ → ℕ → ℕ
  taken e where_holds elsewhere = cond (at e) where_holds elsewhere

  -- ---- reached

  -- c is passed on to a marked form from one with these operands: from a choice to the alternative it takes, from any other to all operands
  abbrev pub onward : (ℕ → Bool) → Operands → Bool
  onward marked Operands.Nothing = false
  onward marked (Operands.One a) = marked a
  onward marked (Operands.Both a b) = marked a || marked b
  onward marked (Operands.Choice e a b) = marked (taken e a b)

  -- a query form passes c on to a marked form
  abbrev pub passes_on : (ℕ → Bool) → Query → Bool
  passes_on marked y = onward marked (query_operands y)

  -- form q is x, or passes c on to x through any number of forms
  unfoldable pub leads : ℕ → ℕ → Bool
  leads x = value false (λ marked q. eqb x q || passes_on marked (query T.queries q))

  -- "reached": c is permitted, and the report passes it on to form x
  unfoldable pub reached : ℕ → Bool
  reached x = permitted T c && leads x (report T)

  -- ---- sets of attributes

  -- entry k of table 1 "holds"
  abbrev pub entry_holds : ℕ → Bool
  entry_holds k = at (entry_expression T.entries k)

  -- the joined set of a list, the `count` entries from `start` on: an attribute is there when any of its entries holds
  unfoldable pub joined_set : ℕ → ℕ → ℕ
  joined_set start zero = 0
  joined_set start (suc count) =
      bit_or (joined_set start count) (cond (entry_holds (start + count)) (2 ^ entry_attribute T.entries (start + count)) 0)

  -- relation r is in table 2, and "present": its expression holds
  abbrev pub present : ℕ → Bool
  present r = ltb r (relation_count T) && at (relation_expression T.relations r)

  -- the attributes of relation r: those of its joined list
  abbrev pub relation_set : ℕ → ℕ
  relation_set r = joined_set (relation_start T.relations r) (relation_length T.relations r)

  -- the attributes that the list of the project form q, of `count` entries, names: those of the joined list
  abbrev pub project_set : ℕ → ℕ → ℕ
  project_set q count = joined_set (project_start T q) count

  -- ---- comparisons: sets that are gathered from all that a comparison reaches at c, its choices taken

  -- from a comparison with these operands, where `set` gives the sets of lower ones; without operands it is the comparison's own
  abbrev pub gathered_of : (ℕ → ℕ) → ℕ → Operands → ℕ
  gathered_of set own Operands.Nothing = own
  gathered_of set own (Operands.One a) = set a
  gathered_of set own (Operands.Both a b) = bit_or (set a) (set b)
  gathered_of set own (Operands.Choice e a b) = set (taken e a b)

  unfoldable pub gathered : (Comparison → ℕ) → ℕ → ℕ
  gathered own =
      value 0 (λ set f. gathered_of set (own (comparison T.comparisons f)) (comparison_operands (comparison T.comparisons f)))

  -- comparison f is g, or leads to g through its operands, its choices taken
  unfoldable pub compares : ℕ → ℕ → Bool
  compares g = value false (λ marked f. eqb g f || onward marked (comparison_operands (comparison T.comparisons f)))

  -- the attributes that a comparison names, its choices taken
  abbrev pub names : ℕ → ℕ
  names = gathered (λ x. names_of (comparison_sides x))

  -- the left attributes at fault in a comparison, its choices taken
  abbrev pub clashes : ℕ → ℕ
  clashes = gathered (λ x. clash_of (kind_of T) (comparison_sides x))

  -- ---- the set of a query form

  -- The typing rules give one only where they are kept; there this is that set (proofs/SetLaws). Elsewhere the strict reading
  -- shows none; the filled one has these for a relation and a project: an absent relation has no attributes, a project those of its list that its
  -- operand has; a union or intersection has those of its left operand
  abbrev pub set_rule : (ℕ → ℕ) → ℕ → Query → ℕ
  set_rule set q Query.Malformed = 0
  set_rule set q Query.Empty = 0
  set_rule set q (Query.Relation a) = cond (present a) (relation_set a) 0
  set_rule set q (Query.Select a b) = set b
  set_rule set q (Query.Project a b) = bit_and (project_set q a) (set b)
  set_rule set q (Query.Choice a b d) = set (taken a b d)
  set_rule set q (Query.Product a b) = bit_or (set a) (set b)
  set_rule set q (Query.Union a b) = set a
  set_rule set q (Query.Intersection a b) = set a

  unfoldable pub set_of : ℕ → ℕ
  set_of = value 0 (λ set q. set_rule set q (query T.queries q))

  -- ---- rules

  -- What breaks the rule of form q at c, as a set of the refusal's items: an absent relation; attributes that are compared, or projected, and
  -- missing; that both sides of a product have; that one side alone of a union or intersection has
  abbrev pub faults_of : ℕ → Query → ℕ
  faults_of q Query.Malformed = 0
  faults_of q Query.Empty = 0
  faults_of q (Query.Relation a) = cond (present a) 0 (2 ^ a)
  faults_of q (Query.Select a b) = difference (names a) (set_of b)
  faults_of q (Query.Project a b) = difference (project_set q a) (set_of b)
  faults_of q (Query.Choice a b d) = 0
  faults_of q (Query.Product a b) = bit_and (set_of a) (set_of b)
  faults_of q (Query.Union a b) = bit_xor (set_of a) (set_of b)
  faults_of q (Query.Intersection a b) = bit_xor (set_of a) (set_of b)

  -- what is compared there with another kind: the left attributes
  abbrev pub clashes_in : Query → ℕ
  clashes_in Query.Malformed = 0
  clashes_in Query.Empty = 0
  clashes_in (Query.Relation a) = 0
  clashes_in (Query.Select a b) = clashes a
  clashes_in (Query.Project a b) = 0
  clashes_in (Query.Choice a b d) = 0
  clashes_in (Query.Product a b) = 0
  clashes_in (Query.Union a b) = 0
  clashes_in (Query.Intersection a b) = 0

  -- Faults are looked for in a form in phases, each at all configurations, and each only if those before it find nothing: what breaks its rule, but
  -- for kinds; then kinds
  abbrev pub faults_in : ℕ → ℕ → Query → ℕ
  faults_in zero q y = faults_of q y
  faults_in (suc zero) q y = clashes_in y
  faults_in (suc (suc phase)) q y = 0

  unfoldable pub faults : ℕ → ℕ → ℕ
  faults phase q = faults_in phase q (query T.queries q)

  -- form q fails at c in this phase. A form that c does not reach breaks nothing
  abbrev pub fails : ℕ → ℕ → Bool
  fails phase q = reached q && not (eqb (faults phase q) 0)

  -- nothing is at fault in form q at c
  abbrev pub keeps : ℕ → Bool
  keeps q = eqb (faults 0 q) 0 && eqb (faults 1 q) 0
