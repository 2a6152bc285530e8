-- What words of orders mean, which order is next, and what the station is to do for one.
use Rattle.std.specs.Prelude.{ℕ, ◌≡◌, ◌+◌, ◌-◌, ◌^◌, ◌∷◌, [], ◌++◌, List, min, codes}
use Rattle.dm_messages.specs.declared.kind.Kind.{Kind}
use Rattle.dm_messages.specs.declared.kind.Kind.TheVariants.{Dm1, Dm2, Dm6}
use Rattle.live_station.specs.declared.order.Clearing.{Clearing}
use Rattle.live_station.specs.declared.order.Clearing.TheVariants.{Dm3, Dm11}
use Rattle.live_station.specs.declared.order.Order.{Order}
use Rattle.live_station.specs.declared.order.Order.TheVariants as station
use Rattle.tester_command.specs.declared.order.Question.{Question}
use Rattle.tester_command.specs.declared.order.Question.TheVariants.{Message, Claim}
use Rattle.tester_command.specs.declared.order.TestOrder.{TestOrder}
use Rattle.tester_command.specs.declared.order.TestOrder.TheVariants.{Ask, Clear, Command}
use Rattle.tester_command.specs.declared.queue.LineOrder.{LineOrder}
use Rattle.tester_command.specs.declared.queue.LineOrder.TheVariants.{Silent, Waits}
use Rattle.tester_command.specs.declared.queue.NumberedOrder.{NumberedOrder}

-- the word of what is asked for
abbrev pub kind_text : Kind → List ℕ
kind_text Dm1 = codes "dm1"
kind_text Dm2 = codes "dm2"
kind_text Dm6 = codes "dm6"

abbrev pub question_text : Question → List ℕ
question_text (Message kind) = kind_text kind
question_text Claim = codes "claim"

-- and of what is cleared
abbrev pub clearing_text : Clearing → List ℕ
clearing_text Dm3 = codes "dm3"
clearing_text Dm11 = codes "dm11"

-- an order has a station do this to the unit of a NAME, and nothing else
abbrev pub IsWanted : TestOrder → ℕ → Order → Type 0
IsWanted (Ask whom (Message kind)) name o = o ≡ station.Ask name kind
IsWanted (Ask whom Claim) name o = o ≡ station.AskClaim name
IsWanted (Clear whom what) name o = o ≡ station.Clear name what
IsWanted (Command commanded address) name o = (commanded ≡ name) × (o ≡ station.Command name address)
IsWanted _ name o = ⊥

-- the order of a line waits behind those that wait; of any other line nothing does
abbrev pub TakesLine : LineOrder → List NumberedOrder → List NumberedOrder → Type 0
TakesLine (Waits order) before after = after ≡ before ++ order ∷ []
TakesLine _ before after = after ≡ before

-- each line that is not silent has the number behind the latest, which stops at the greatest; an order has that of its line
abbrev pub IsNumbered : LineOrder → ℕ → ℕ → Type 0
IsNumbered Silent before after = after ≡ before
IsNumbered (Waits order) before after = (after ≡ min (before + 1) (2 ^ 64 - 1)) × (order.number ≡ after)
IsNumbered _ before after = after ≡ min (before + 1) (2 ^ 64 - 1)
