use Rattle.bw_shell.proofs.EarlyEnds.{still_ended}
use Rattle.bw_shell.proofs.laws.early_ends_stay.Goals as goal

pub returns : goal.returns
returns c on_error read end script more state last parts all bytes are longer early session =
    still_ended on_error read end early more last script parts all state bytes are longer session
