-- Columns that are set or rebuilt, by index (SQL-92, searched update statement; REBUILD is this product's own).
use Rattle.std.specs.Prelude.{◌≡◌, ◌≢◌, ◌<◌, ℕ, List, Option, Some, length, map, option_map}
use Rattle.std.specs.List.{All, AllPairs}
use Rattle.bw_code.specs.Types.{types_of}
use Rattle.bw_code.specs.declared.kind.Kind.{Kind}
use Rattle.bw_code.specs.declared.kind.Layout.{Layout}
use Rattle.bw_sql.specs.declared.tree.LayoutChoice.{LayoutChoice}
use Rattle.bw_sql.specs.declared.tree.SetClause.{SetClause}
use Rattle.bw_table.specs.Changes.{IsSetTo}
use Rattle.bw_table.specs.declared.choice.Choice.{Choice}
use Rattle.bw_table.specs.declared.setting.SetTo.{SetTo}
use Rattle.bw_table.specs.declared.setting.SetTo.TheVariants.{Column, Value}
use Rattle.bw_model.specs.Store.{Header, place_of}
use Rattle.bw_model.specs.Words.{kind_of, layout_of}
use Rattle.bw_plan.specs.Plans.{source_of}
use Rattle.bw_plan.specs.declared.plan.Source.{Source}
use Rattle.bw_plan.specs.declared.plan.Source.TheVariants.{Constant, Place}

-- the source of a column's new value
abbrev pub source_to : SetTo → Source
source_to (Value value) = Constant value
source_to (Column place) = Place place

-- the sets of an UPDATE, each with the index of its column
abbrev pub AreSetsFor : List Header → List SetClause → List (ℕ × SetTo) → Type 0
AreSetsFor headers sets placed =
    ◌≡◌ {A = List (Option ℕ × Source)} (map (λ set. (Some set.0, source_to set.1)) placed) (map (λ set. (place_of headers set.column, source_of headers set.source)) sets)

-- the set columns exist, each is set once, to a value of its type or to a column that exists
pub record AreSettable (headers : List Header) (sets : List (ℕ × SetTo)) : Type 0 where
  pub named : All (λ set. set.0 < length headers) sets
  pub apart : AllPairs (λ set other. set.0 ≢ other.0) sets
  pub values : All (IsSetTo (types_of headers)) sets

-- the choices of a REBUILD, each with the index of its column
abbrev pub AreChoicesFor : List Header → List LayoutChoice → List (ℕ × Choice) → Type 0
AreChoicesFor headers choices placed =
    ◌≡◌ {A = List (Option ℕ × (Layout × Option Kind))} (map (λ choice. (Some choice.0, (choice.1.layout, choice.1.kind))) placed)
    (map (λ choice. (place_of headers choice.column, (layout_of choice.layout, option_map kind_of choice.kind))) choices)
