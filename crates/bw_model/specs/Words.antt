-- The types, layouts and kinds that the keywords of a statement stand for.
use Rattle.std.specs.Prelude.{None, Option, Some}
use Rattle.bw_code.specs.declared.kind.ColumnType.{ColumnType}
use Rattle.bw_code.specs.declared.kind.ColumnType.TheVariants.{BigInt, Integer}
use Rattle.bw_code.specs.declared.kind.Kind.{Kind}
use Rattle.bw_code.specs.declared.kind.Kind.TheVariants.{Dictionary, Offset}
use Rattle.bw_code.specs.declared.kind.Layout.{Layout}
use Rattle.bw_code.specs.declared.kind.Layout.TheVariants.{H, P, S, V}
use Rattle.bw_sql.specs.declared.tree.KindWord.{KindWord}
use Rattle.bw_sql.specs.declared.tree.KindWord.TheVariants as kind
use Rattle.bw_sql.specs.declared.tree.LayoutWord.{LayoutWord}
use Rattle.bw_sql.specs.declared.tree.LayoutWord.TheVariants as layout
use Rattle.bw_sql.specs.declared.tree.TypeWord.{TypeWord}
use Rattle.bw_sql.specs.declared.tree.TypeWord.TheVariants as word

abbrev pub type_of : TypeWord → ColumnType
type_of word.Integer = Integer
type_of word.BigInt = BigInt

abbrev pub layout_of : LayoutWord → Layout
layout_of layout.P = P
layout_of layout.V = V
layout_of layout.H = H
layout_of layout.S = S

abbrev pub kind_of : KindWord → Kind
kind_of kind.Offset = Offset
kind_of kind.Dictionary = Dictionary

-- the layout that is given, or the default if none is
abbrev pub layout_or : Option LayoutWord → Layout → Layout
layout_or None otherwise = otherwise
layout_or (Some word) otherwise = layout_of word

-- the kind that is given, or the default if none is
abbrev pub kind_or : Option KindWord → Kind → Kind
kind_or None otherwise = otherwise
kind_or (Some word) otherwise = kind_of word
