use Rattle.std.proofs.Common.{◌≡◌, [], sym, ap, subst}
use Rattle.bw_model.specs.Named.{AreNamed}
use Rattle.bw_model.specs.Store.{Store}
use Rattle.bw_model.specs.WellFormed.{IsStore}
use Rattle.bw_model.proofs.Kept.{empty}
use Rattle.bw_model.proofs.Naming.{no_names}
use Rattle.bw_model.proofs.ReplyTexts.{told}
use Rattle.bw_engine.specs.Stores.{store_of}
use Rattle.bw_shell.proofs.RunReplies.{answers_are_replies}
use Rattle.bw_shell.proofs.laws.output_determines_replies.Goals as goal

empty_store : (store : Store) → store ≡ [] → IsStore store
empty_store store is = subst IsStore (sym is) empty

empty_names : (store : Store) → store ≡ [] → AreNamed store
empty_names store is = subst AreNamed (sym is) no_names

pub returns : goal.returns
returns c script other parts others a b first second after last empty_first empty_second answered others_answered same =
    told a b
    (answers_are_replies script first after parts a (empty_store (store_of first.tables) (ap store_of empty_first)) (empty_names (store_of first.tables) (ap store_of empty_first)) answered)
    (answers_are_replies other second last others b (empty_store (store_of second.tables) (ap store_of empty_second)) (empty_names (store_of second.tables) (ap store_of empty_second)) others_answered) same
