-- What the station is told to send is what the journal says of it, and is at most three frames.
use Rattle.std.proofs.Common.{ℕ, suc, zero, ◌≡◌, ◌≢◌, ◌⊎◌, inl, inr, ◌↔◌, IfErr, IfOk, IsOk, IsOkUnless, ◌+◌, ◌≤◌, List, [], ◌∷◌, length, Option, Some, None, Result, Ok, Err, nat_lt, true, false, Bool, cond, refl, sym, ap, subst, map, if◌then◌else◌, ◌∙◌, arith, rules}
use Rattle.can_frame.specs.FrameValue.{FrameValue}
use Rattle.requests.specs.Layouts.{commanded_bytes}
use Rattle.transport.specs.Messages.{parts_from, frames_of_message, last_part}
use Rattle.entry_lists.specs.KeptValue.{kept_under}
use Rattle.entry_lists.specs.KnownRows.{address_in, row_of}
use Rattle.station_table.specs.Orders.{ask_answer, ask_all_answer, ask_from, command_answer, command_from}
use Rattle.station_table.specs.Reactions.{asking, commanding}
use Rattle.station_table.specs.StationValue.{StationValue}
use Rattle.station_table.specs.declared.error.StationError.{StationError}
use Rattle.station_table.specs.declared.reaction.Ask.{Ask}
use Rattle.station_table.specs.declared.reaction.Reaction.{Reaction}
use Rattle.journal.specs.Steps.{order_answer}
use Rattle.journal.specs.declared.order.Order.TheVariants as order
use Rattle.bus_ledger.specs.BusValue.{Traffic, seat_at}
use Rattle.bus_ledger.specs.Changes.{withdrawn}
use Rattle.bus_ledger.specs.Newcomers.{live_units}
use Rattle.bus_ledger.specs.declared.traffic.QueuedFrame.{QueuedFrame}
use Rattle.bus_ledger.specs.declared.traffic.Which.TheVariants as which
use Rattle.std.proofs.lemmas.List.{length-map}
use Rattle.journal.specs.State.{State, table_at}
use Rattle.journal.specs.Steps.{after, after_order_of, reacted, untagged}
use Rattle.journal.specs.Journal.{joins}
use Rattle.journal.specs.declared.event.Event.{Event}
use Rattle.journal.specs.declared.event.Event.TheVariants.{Ordered}
use Rattle.journal.specs.declared.order.Order.{Order}
use Rattle.garage.specs.Obeying.{Obeys}
use Rattle.garage.specs.Refusals.{of_station}
use Rattle.garage.specs.declared.error.GarageError.{GarageError}
use Rattle.garage.specs.declared.error.GarageError.TheVariants.{BookFull}
use Rattle.station_table.specs.declared.error.StationError.TheVariants as station
use Rattle.garage.proofs.Traffics.{keeps_withdrawn_if, put_bound, put_seats, put_units, put_wire}

one_frame : (f : FrameValue) (r : Reaction) → record { withdraw = false; put = f ∷ [] } ≡ r → length r.put ≤ 3
one_frame f r e = let n : length r.put ≡ 1 = ap (λ (x : Reaction). length x.put) (sym e) in omega arith

few_asked : (own to : Option ℕ) (ask : Ask) (r : Reaction) → ask_from own to ask ≡ Ok r → length r.put ≤ 3
few_asked None to ask r e = absurd cc
few_asked (Some own) None ask r e = absurd cc
few_asked (Some own) (Some address) ask r e =
    let same : asking own ask address ≡ r = cc in
    one_frame _ r same

pub obeys_ask : (s : StationValue) (name : ℕ) (ask : Ask) (r : Reaction) → ask_answer s name ask ≡ Ok r → Obeys s (order.Ask name ask) r
obeys_ask s name ask r e = record { queues = e; few = few_asked s.claimer.held (address_in (row_of s.owners name (kept_under s.rows name))) ask r e }

pub obeys_ask_all : (s : StationValue) (ask : Ask) (r : Reaction) → ask_all_answer s ask ≡ Ok r → Obeys s (order.AskAll ask) r
obeys_ask_all s ask r e = record { queues = e; few = few_asked s.claimer.held (Some 255) ask r e }

length-parts_from : (payload : List ℕ) (pgn source dest j n : ℕ) → length (parts_from payload pgn source dest j n) ≡ n
length-parts_from payload pgn source dest j zero = refl
length-parts_from payload pgn source dest j (suc n) = ap suc (length-parts_from payload pgn source dest (suc j) n)

three : (payload : List ℕ) (pgn source dest : ℕ) → length payload ≡ 9 → length (frames_of_message payload pgn source dest) ≡ 3
three payload pgn source dest nine =
    let last : last_part payload ≡ 2 = rw nine refl in
    length-parts_from payload pgn source dest 0 (suc (last_part payload)) ∙ ap suc last

few_commanded : (own : Option ℕ) (name address : ℕ) (r : Reaction) → command_from own name address ≡ Ok r → length r.put ≤ 3
few_commanded None name address r e = absurd cc
few_commanded (Some own) name address r e =
    let same : commanding own name address ≡ r = cc in
    let bytes : List ℕ = commanded_bytes (record { name = name; address = address }) in
    let nine : length bytes ≡ 9 = nine_bytes name address in
    let n : length r.put ≡ 3 = ap (λ (x : Reaction). length x.put) (sym same) ∙ three bytes 65240 own 255 nine in
    omega arith
  where
    nine_bytes : (name address : ℕ) → length (commanded_bytes (record { name = name; address = address })) ≡ 9
    nine_bytes name address = refl

within : (b : Bool) (e : StationError) (a : Result Reaction StationError) (r : Reaction) → cond b (Err e) a ≡ Ok r → a ≡ Ok r
within true e a r h = absurd cc
within false e a r h = h

pub obeys_command : (s : StationValue) (name address : ℕ) (r : Reaction) → command_answer s name address ≡ Ok r → Obeys s (order.Command name address) r
obeys_command s name address r e = record { queues = e; few = few_commanded s.claimer.held name address r (within (nat_lt 253 address) _ _ r e) }

-- a refusal of the station that is not for want of memory is the one that is told
answered_as : (answer told : Result Reaction StationError) (e : StationError) → e ≢ station.OutOfMemory → IfErr answer (λ s. (s ≡ station.OutOfMemory) ⊎ (told ≡ Err s)) → answer ≡ Err e → told ≡ Err e
answered_as (Ok r) told e other why is = absurd cc
answered_as (Err s) told e other why is =
    let same : s ≡ e = cc in
    elim why [
      | inl m ↦ absurd (other (sym same ∙ m))
      | inr t ↦ t ∙ is
    ]

-- what a call answers that has the station obey an order, to which the station would say this if memory allows
pub record Refuses {T : Type 0} (result : Result T GarageError) (told : Result Reaction StationError) (full : Type 0) : Type 0 where
  pub as_told : (e : StationError) → e ≢ station.OutOfMemory → ((result ≡ Err (of_station e)) ↔ (told ≡ Err e))
  pub book_full : (result ≡ Err BookFull) ↔ (IsOk told × full)

pub refuses : {T : Type 0} (result : Result T GarageError) (answer told : Result Reaction StationError) (full : Type 0) → (told ≢ Err station.OutOfMemory)
    → ((s : StationError) → told ≡ Err s → answer ≡ Err s) → IfErr answer (λ s. (s ≡ station.OutOfMemory) ⊎ (told ≡ Err s)) → IfOk answer (λ x. told ≡ Ok x)
    → ((e : StationError) → e ≢ station.OutOfMemory → ((result ≡ Err (of_station e)) ↔ (answer ≡ Err e))) → ((result ≡ Err BookFull) ↔ (IsOkUnless answer station.OutOfMemory × full))
    → Refuses result told full
refuses result answer told full never refused why ok as_answered as_full = record {
  as_told = λ e other. (λ r. answered_as answer told e other why ((as_answered e other).0 r), λ t. (as_answered e other).1 (refused e t));
  book_full = (λ r. (let p = as_full.0 r in (would answer told never refused p.0, p.1)), λ p. as_full.1 (did answer told why p.0, p.1));
}
  where
    would : (answer told : Result Reaction StationError) → (told ≢ Err station.OutOfMemory) → ((s : StationError) → told ≡ Err s → answer ≡ Err s) → IsOkUnless answer station.OutOfMemory → IsOk told
    would answer (Ok x) never refused h = refl
    would answer (Err s) never refused h =
        let is : answer ≡ Err s = refused s refl in
        let memory : s ≡ station.OutOfMemory = subst (λ (a : Result Reaction StationError). IsOkUnless a station.OutOfMemory) is h in
        absurd (never (ap Err memory))

    did : (answer told : Result Reaction StationError) → IfErr answer (λ s. (s ≡ station.OutOfMemory) ⊎ (told ≡ Err s)) → IsOk told → IsOkUnless answer station.OutOfMemory
    did (Ok x) told why h = search rules
    did (Err s) told why h = elim why [ inl m ↦ m | inr t ↦ absurd (let e : IsOk {T = Reaction} (Err s) = subst (λ (a : Result Reaction StationError). IsOk a) t h in cc) ]

pub both_ways : {A B C : Type 0} → (A ↔ B) → (B ↔ C) → (A ↔ C)
both_ways f g = (λ a. g.0 (f.0 a), λ c. f.1 (g.1 c))

pub full_of_one : {A K F R : Type 0} → (R ↔ (K × F)) → (K ↔ A) → (R ↔ (A × F))
full_of_one f g = (λ r. (let p = f.0 r in (g.0 p.0, p.1)), λ p. f.1 (g.1 p.0, p.1))

pub full_of_two : {A B K F R : Type 0} → (R ↔ (K × F)) → (K ↔ (A × B)) → (R ↔ (A × B × F))
full_of_two f g = (λ r. (let p = f.0 r in let q = g.0 p.0 in (q.0, q.1, p.1)), λ p. f.1 (g.1 (p.0, p.1), p.2))

pub ask_never : (own to : Option ℕ) (ask : Ask) → ask_from own to ask ≢ Err station.OutOfMemory
ask_never None to ask e = absurd cc
ask_never (Some own) None ask e = absurd cc
ask_never (Some own) (Some address) ask e = absurd cc

pub command_never : (own : Option ℕ) (name address : ℕ) (b : Bool) → (if b then Err station.NotAnAddress else command_from own name address) ≢ Err station.OutOfMemory
command_never own name address true e = absurd cc
command_never None name address false e = absurd cc
command_never (Some own) name address false e = absurd cc

pub not_held : station.NotHeld ≢ station.OutOfMemory
not_held e = absurd cc

pub no_address : station.NoAddress ≢ station.OutOfMemory
no_address e = absurd cc

pub not_an_address : station.NotAnAddress ≢ station.OutOfMemory
not_an_address e = absurd cc

-- what the state becomes
pub ordered_is : (y : ℕ) (o : Order) (s : State) (r : Reaction) → order_answer (table_at s y) o ≡ Ok r → after (Ordered y o) s ≡ record s { traffic = reacted y r s.traffic }
unfolding after_order_of
ordered_is y o s r e = rw e refl

pub joins_ordered : (y : ℕ) (o : Order) (es : List Event) → joins (Ordered y o ∷ es) ≡ joins es
unfolding joins
joins_ordered y o es = refl

-- what a reaction of a station leaves as it was
pub record Reacts (r : Reaction) (t u : Traffic) : Type 0 where
  pub seats : length u.seats ≡ length t.seats
  pub wire : length u.wire ≡ length t.wire
  pub units : live_units u ≡ live_units t
  pub queued : (j : ℕ) → (seat_at u j).queued ≤ (seat_at t j).queued + length r.put

pub reacts : (y : ℕ) (r : Reaction) (t : Traffic) → Reacts r t (reacted y r t)
reacts y r t =
    let kept = keeps_withdrawn_if r.withdraw y t in
    let u : Traffic = if r.withdraw then withdrawn y which.All t else t in
    let qs : List QueuedFrame = map untagged r.put in
    record {
      seats = put_seats y qs u ∙ kept.seats;
      wire = ap length (put_wire y qs u ∙ kept.wire);
      units = put_units y qs u ∙ kept.units;
      queued = λ j. (let b = put_bound y qs u j in let k = kept.queued j in let n = length-map r.put untagged in omega arith);
    }
