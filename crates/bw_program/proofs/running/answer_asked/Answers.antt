use Rattle.bw_program.proofs.Following.{nothing_done, refused_words}
use Rattle.bw_program.proofs.running.answer_asked.Goals as goal

pub returns-in-Err : goal.returns-in-Err
returns-in-Err g c = (refused_words, nothing_done c.in-Err.fault _)
