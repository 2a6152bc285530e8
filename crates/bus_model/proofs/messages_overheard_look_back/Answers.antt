use Rattle.bus_model.proofs.SentWhole.{sent_back, sent_from}
use Rattle.bus_model.proofs.messages_overheard_look_back.Goals as goal

pub returns : goal.returns
returns c = λ x older m. (sent_back x older m, sent_from x older m)
