-- What a frame says decides what is done.
use Rattle.std.proofs.Common.{◌≡◌, ap, ◌∙◌, subst}
use Rattle.parameter_group.specs.Group.{Group}
use Rattle.bus_model.specs.declared.overheard.Overheard.{Overheard}
use Rattle.listener.specs.ListenerSteps.{group_taken, group_told}
use Rattle.listener.specs.ListenerValue.{ListenerValue}
use Rattle.listener.specs.SentEntries.{HasTaken, group_listed}
use Rattle.listener.specs.declared.entry.SentEntry.{SentEntry}

pub taken_same : (l m : ListenerValue) (g said : Group) → said ≡ g → m ≡ group_taken l said → m ≡ group_taken l g
taken_same l m g said e h = h ∙ ap (group_taken l) e

pub told_same : (l : ListenerValue) (c : Overheard) (g said : Group) → said ≡ g → c ≡ group_told l said → c ≡ group_told l g
told_same l c g said e h = h ∙ ap (group_told l) e

pub listed_same : {L : Type 0} (takes : L → SentEntry → L → Type 0) (before after : L) (l : ListenerValue) (g said : Group) → said ≡ g
    → HasTaken takes before (group_listed l said) after → HasTaken takes before (group_listed l g) after
listed_same takes before after l g said e put = subst (λ (x : Group). HasTaken takes before (group_listed l x) after) e put
