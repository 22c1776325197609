-- The loops over the relations.
use Prim.Native.Nat.{ℕ, ◌*◌, ◌/◌, ◌≤◌}
use mathlib.Core.Path.{◌≡◌, ap₂, ◌∙◌}
use mathlib.Core.Bool.{Bool, ◌&&◌}
use mathlib.Core.List.{List}
use lib.ListN.{length}
use lib.Dec.{ltb}
use Rattle.report.specs.Tables.{relation_expression, relation_length, relation_start}
use Rattle.report.specs.FormChecks.{list_fits, relation_fits}
use Rattle.table_checks.proofs.FormLoops.{FormsPassed}

-- the first r relations fit, and their lists end at `start`
pub record RelationsPassed (e : ℕ) (entries relations : List ℕ) (start r : ℕ) : Type 0 where
  pub passed : FormsPassed (relation_fits e entries relations) (length relations / 2) r
  pub ends : start ≡ relation_start relations r
  pub inside : start ≤ length entries / 2

-- relation r, of expression x and n entries; t is whether its list fits
pub relation_is : {e start r x n : ℕ} {entries relations : List ℕ} {t : Bool} → RelationsPassed e entries relations start r
    → x ≡ relation_expression relations r → n ≡ relation_length relations r → t ≡ list_fits entries start n
    → (ltb x e && t) ≡ relation_fits e entries relations r
relation_is {e} {entries = entries} s f g l = ap₂ (λ (y : ℕ) (u : Bool). ltb y e && u) f (l ∙ ap₂ (list_fits entries) s.ends g)

-- the lists of the first r relations end at `end`
pub record Summed (relations : List ℕ) (end r : ℕ) : Type 0 where
  pub ends : end ≡ relation_start relations r
  pub small : end ≤ 65536 * r
