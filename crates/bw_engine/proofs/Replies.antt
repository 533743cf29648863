-- What a change answers over its table.
use Rattle.std.proofs.Common.{Option, length}
use Rattle.bw_sql.specs.Tree.{ConditionTree}
use Rattle.bw_model.specs.Condition.{found_rows}
use Rattle.bw_model.specs.Store.{Table}
use Rattle.bw_model.specs.declared.reply.Reply.{Reply}
use Rattle.bw_model.specs.declared.reply.Reply.TheVariants.{Count, Done}

abbrev pub says_found : Option ConditionTree → Table → Reply
says_found condition table = Count (length (found_rows table condition))

abbrev pub says_done : Table → Reply
says_done table = Done
