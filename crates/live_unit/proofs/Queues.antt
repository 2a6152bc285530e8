-- From which address what waits is, after more was put.
use Rattle.std.proofs.Common.{ℕ, ◌≡◌, ◌⊎◌, inl, inr, Bool, false, List, [], ◌∷◌, refl, sym, ap, ◌∙◌}
use Rattle.node_core.specs.declared.heard.Heard.{Heard}
use Rattle.node_core.specs.declared.heard.Withdraw.{Withdraw}
use Rattle.node_core.specs.declared.heard.Withdraw.TheVariants as withdraw
use Rattle.node_core.specs.declared.out.Out.{Out}
use Rattle.live_unit.specs.declared.queue.Lane.{Lane}
use Rattle.live_unit.specs.declared.queue.Lane.TheVariants.{Claims, Singles, Session, Messages}
use Rattle.live_unit.specs.Queue.{QueueValue, goes_to_all, lane_for, put_into, putting, after_heard, after_withdrawing}

source_put_into : (lane : Lane) (outs : List Out) (q : QueueValue) → (put_into lane outs q).source ≡ q.source
source_put_into Claims outs q = refl
source_put_into Singles outs q = refl
source_put_into Session outs q = refl
source_put_into Messages outs q = refl

source_putting : (to_all : Bool) (outs : List Out) (q : QueueValue) → (putting to_all outs q).source ≡ q.source
source_putting to_all [] q = refl
source_putting to_all (o ∷ outs) q = source_put_into (lane_for to_all o) (o ∷ outs) q

source_withdrawing : (w : Withdraw) (source : ℕ) (q : QueueValue) → (w ≡ withdraw.All) ⊎ (source ≡ q.source) → (after_withdrawing w source q).source ≡ source
source_withdrawing withdraw.Keep source q (inl all) = absurd cc
source_withdrawing withdraw.Keep source q (inr same) = sym same
source_withdrawing withdraw.Session source q (inl all) = absurd cc
source_withdrawing withdraw.Session source q (inr same) = sym same
source_withdrawing withdraw.All source q e = refl

pub source_queued : (heard : Heard) (source : ℕ) (q : QueueValue) → (heard.withdraw ≡ withdraw.All) ⊎ (source ≡ q.source) → (after_heard heard source q).source ≡ source
source_queued heard source q e =
    source_putting (goes_to_all heard.begun) heard.put (after_withdrawing heard.withdraw source q) ∙ source_withdrawing heard.withdraw source q e

-- what is put in the place of a session
pub source_again : (source : ℕ) (q q' q'' : QueueValue) (outs : List Out) → q' ≡ after_withdrawing withdraw.Session source q → q'' ≡ putting false outs q' → q''.source ≡ q.source
source_again source q q' q'' outs e f =
    ap (λ (x : QueueValue). x.source) f ∙ (source_putting false outs q' ∙ ap (λ (x : QueueValue). x.source) e)
