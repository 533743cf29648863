-- A column: its values, its layout, its encoding, and its capacity in values.
use Rattle.std.specs.Prelude.{List, Option, ℕ, ℤ, ◌≡◌, ◌≤◌}
use Rattle.bw_code.specs.declared.encoding.Encoding.{Encoding}
use Rattle.bw_code.specs.declared.kind.Layout.{Layout}

pub record ColumnView : Type 0 where
  pub values : List (Option ℤ)
  pub layout : Layout
  pub encoding : Encoding
  pub room : ℕ

-- the same values in the same layout and encoding, and no less room
pub record Keeps (new old : ColumnView) : Type 0 where
  pub values : new.values ≡ old.values
  pub layout : new.layout ≡ old.layout
  pub encoding : new.encoding ≡ old.encoding
  pub room : old.room ≤ new.room
