use Rattle.journal.proofs.Reaching.{reached}
use Rattle.journal.proofs.laws.journal_is_a_run.Goals as goal

pub returns : goal.returns
returns c = λ r journal fit none. let now = reached r journal fit none in (now.seats, now.events, now.run)
