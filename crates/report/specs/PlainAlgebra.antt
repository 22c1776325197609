-- docs/FORMAT.md, "Plain rules": relational algebra on trees, under a schema. Nothing here knows of features, expressions or choices.
use Rattle.std.specs.Prelude.{ℕ, ◌^◌, Bool, true, false, ◌&&◌, List, [], ◌∷◌, eqb}
use mathlib.Core.Option.{Option, none, some}
use Rattle.std.specs.Int.Bits.{bit_and, bit_or}
use Rattle.sets.specs.Bits.{subset}

-- a comparison of an attribute with a constant or with an attribute begins with its operator; that with a constant ends with the constant's kind
pub data PlainComparison : Type 0 where
  never always : PlainComparison
  constant : ℕ → ℕ → ℕ → ℕ → PlainComparison
  attribute : ℕ → ℕ → ℕ → PlainComparison
  negation : PlainComparison → PlainComparison
  both either : PlainComparison → PlainComparison → PlainComparison

-- a project has the list of its attributes, in order
pub data PlainQuery : Type 0 where
  empty : PlainQuery
  relation : ℕ → PlainQuery
  select : PlainComparison → PlainQuery → PlainQuery
  project : List ℕ → PlainQuery → PlainQuery
  product union intersection : PlainQuery → PlainQuery → PlainQuery

-- the set of attributes of each relation that is in the schema
abbrev pub Schema : Type 0
Schema = ℕ → Option ℕ

-- the attributes that a comparison names
abbrev pub named : PlainComparison → ℕ
named never = 0
named always = 0
named (constant o a b k) = 2 ^ a
named (attribute o a b) = bit_or (2 ^ a) (2 ^ b)
named (negation t) = named t
named (both t u) = bit_or (named t) (named u)
named (either t u) = bit_or (named t) (named u)

-- the kind of each attribute
abbrev pub Kinds : Type 0
Kinds = ℕ → ℕ

-- both sides of all that a comparison compares have one kind
abbrev pub one_kind : Kinds → PlainComparison → Bool
one_kind kind never = true
one_kind kind always = true
one_kind kind (constant o a b k) = eqb (kind a) k
one_kind kind (attribute o a b) = eqb (kind a) (kind b)
one_kind kind (negation t) = one_kind kind t
one_kind kind (both t u) = one_kind kind t && one_kind kind u
one_kind kind (either t u) = one_kind kind t && one_kind kind u

-- the rule of a comparison, over an operand with the attributes s: it names attributes of s alone, and both sides have one kind
abbrev pub names_there : ℕ → PlainComparison → Bool
names_there s t = subset (named t) s

abbrev pub comparison_keeps : Kinds → ℕ → PlainComparison → Bool
comparison_keeps kind s t = names_there s t && one_kind kind t

-- the set of the attributes of a list
abbrev pub set_from : List ℕ → ℕ
set_from [] = 0
set_from (a ∷ l) = bit_or (2 ^ a) (set_from l)

abbrev pub in_schema : Option ℕ → Bool
in_schema none = false
in_schema (some s) = true

abbrev pub attributes_in : Option ℕ → ℕ
attributes_in none = 0
attributes_in (some s) = s

module _ (schema : Schema) where
  -- "columns": the set of the whole report. Where a rule is broken no answer shows it
  abbrev pub columns : PlainQuery → ℕ
  columns empty = 0
  columns (relation r) = attributes_in (schema r)
  columns (select t q) = columns q
  columns (project l q) = set_from l
  columns (product p q) = bit_or (columns p) (columns q)
  columns (union p q) = columns p
  columns (intersection p q) = columns p

-- "passes": each form keeps its rule
module _ (kind : Kinds) (schema : Schema) where
  abbrev pub passes : PlainQuery → Bool
  passes empty = true
  passes (relation r) = in_schema (schema r)
  passes (select t q) = passes q && comparison_keeps kind (columns schema q) t
  passes (project l q) = passes q && subset (set_from l) (columns schema q)
  passes (product p q) = passes p && passes q && eqb (bit_and (columns schema p) (columns schema q)) 0
  passes (union p q) = passes p && passes q && eqb (columns schema p) (columns schema q)
  passes (intersection p q) = passes p && passes q && eqb (columns schema p) (columns schema q)
