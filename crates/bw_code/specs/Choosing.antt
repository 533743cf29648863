-- The needed rows that satisfy a comparison with a constant or with another column, by the rows that are below and the rows that
-- are equal.
use Rattle.std.specs.Prelude.{Bool, not, ◌&&◌, ◌||◌}
use Rattle.bw_code.specs.declared.compare.CmpOp.{CmpOp}
use Rattle.bw_code.specs.declared.compare.CmpOp.TheVariants.{Eq, Ne, Lt, Le, Gt, Ge}

abbrev pub by_masks : CmpOp → Bool → Bool → Bool → Bool
by_masks Eq need lt eq = eq
by_masks Ne need lt eq = need && not eq
by_masks Lt need lt eq = lt
by_masks Le need lt eq = lt || eq
by_masks Gt need lt eq = need && not (lt || eq)
by_masks Ge need lt eq = need && not lt
