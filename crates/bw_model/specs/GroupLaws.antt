-- What groups of rows are like, for laws.
use Rattle.std.specs.Prelude.{◌≡◌, ◌<ℤ◌, List, None, Some}
use Rattle.std.specs.List.{Contains}
use Rattle.bw_model.specs.Groups.{Group}
use Rattle.bw_model.specs.Store.{Row, Value}

-- numbers ascend, and null is last
abbrev pub IsBefore : Value → Value → Type 0
IsBefore (Some x) (Some y) = x <ℤ y
IsBefore (Some x) None = Unit {0}
IsBefore None y = ⊥

-- a row is in exactly one of these groups
pub record IsInOne (groups : List Group) (row : Row) : Type 0 where
  pub group : Group
  pub there : Contains groups group
  pub inside : Contains group.rows row
  pub only : (other : Group) → Contains groups other → Contains other.rows row → other ≡ group

-- two rows are in the same one of these groups
pub record AreTogether (groups : List Group) (row other : Row) : Type 0 where
  pub group : Group
  pub there : Contains groups group
  pub one : Contains group.rows row
  pub two : Contains group.rows other
