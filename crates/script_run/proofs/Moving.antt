-- What a command of a script does leaves the garage so.
use Rattle.std.proofs.Common.{◌≡◌, ℕ, suc, zero, ◌∙◌, List, [], ◌∷◌, ◌++◌, Option, Result, Ok, Err, length, refl, sym, ap, subst, arith, ⊎_elim, inl, inr, IsSome}
use Rattle.unit_trait.specs.declared.question.Question.{Question}
use Rattle.node_core.specs.declared.heard.Answer.{Answer as UnitAnswer}
use Rattle.trouble_code.specs.LampBytes.{LampsValue}
use Rattle.journal.specs.Journal.{Adds, GarageValue, state_of}
use Rattle.journal.specs.Steps.{next_for}
use Rattle.journal.specs.declared.event.Event.{Event}
use Rattle.journal.specs.declared.event.Event.TheVariants as event
use Rattle.bus_ledger.specs.declared.traffic.Carried.TheVariants as carried
use Rattle.garage.specs.Answers.{Begins}
use Rattle.garage.specs.Carrying.{AddsCarry}
use Rattle.garage.specs.Crew.{Comes, IsOfRound, LeadTo, Sitting}
use Rattle.garage.specs.Hearing.{HasHeardAll, HearsMany}
use Rattle.garage.specs.Rounds.{AreRounds, EachReads, HaveRounds, HearInTurn, IsListeningCut, IsReadOf, IsRoundCut, Listens}
use Rattle.garage.specs.declared.answers.Begin.TheVariants as begin
use Rattle.garage.specs.declared.error.GarageError.{GarageError}
use Rattle.garage.specs.declared.error.GarageError.TheVariants.{Stranger}
use Rattle.script_answer.specs.declared.answer.LineAnswer.{LineAnswer}
use Rattle.script_answer.specs.declared.answer.LineAnswer.TheVariants as answer
use Rattle.script_answer.specs.declared.refusal.Refusal.{Refusal}
use Rattle.script_answer.specs.declared.refusal.Refusal.TheVariants as refusal
use Rattle.script_line.specs.declared.command.CodeChange.{CodeChange}
use Rattle.script_line.specs.declared.command.Command.{Command}
use Rattle.script_line.specs.declared.command.Command.TheVariants as command
use Rattle.script_run.specs.Commands.{ActsBy, Does, IsNotThere, Joins, Leaves}
use Rattle.script_run.specs.Moves.{HeardBy, IsNoUnit, TellsHearing, Moves, MovesByBeginning, MovesByHearing, MovesByJoining, MovesByLeaving, MovesByRounds, MovesByTurning, StaysByChanging, StaysByUnit}
use Rattle.script_run.specs.Steps.{RunsRounds}
use Rattle.script_run.specs.UnitSteps.{BeginsNone, BeginsSo, ChangesSo, HearsSo, LightsSo, TurnsSo, UnitDoes}

lead_none : (P : Event → Type 0) (g h : GarageValue) → h ≡ g → LeadTo P [] g h
unfolding LeadTo
lead_none P g h e = e

lead_on : (P : Event → Type 0) (xs ys : List Event) (a b c : GarageValue) → LeadTo P xs a b → LeadTo P ys b c → LeadTo P (ys ++ xs) a c
unfolding LeadTo
lead_on P xs [] a b c h k = subst (LeadTo P xs a) (sym k) h
lead_on P xs (y ∷ ys) a b c h k = (k.0, lead_on P xs ys a b k.0 h k.1, k.2, k.3)

lead_as : (P Q : Event → Type 0) → ((e : Event) → P e → Q e) → (xs : List Event) (a b : GarageValue) → LeadTo P xs a b → LeadTo Q xs a b
unfolding LeadTo
lead_as P Q f [] a b h = h
lead_as P Q f (x ∷ xs) a b h = (h.0, lead_as P Q f xs a h.0 h.1, h.2, f x h.3)

lead_one : (P : Event → Type 0) (e : Event) (a b : GarageValue) → Adds a e b → P e → LeadTo P (e ∷ []) a b
unfolding LeadTo
lead_one P e a b adds p = (a, refl, adds, p)

comes_same : (a b : GarageValue) → b ≡ a → Comes a b
comes_same a b e = ([], lead_none IsOfRound a b e)

comes_on : (a b c : GarageValue) → Comes a b → Comes b c → Comes a c
comes_on a b c h k = (k.0 ++ h.0, lead_on IsOfRound h.0 k.0 a b c h.1 k.1)

hear_of_round : (k : ℕ) (e : Event) → TellsHearing k e → IsOfRound e
hear_of_round k e h = subst IsOfRound (sym h.2) tt

read_of_round : (y : ℕ) (e : Event) → IsReadOf y e → IsOfRound e
read_of_round y (event.Hear j m a) h = absurd h
read_of_round y (event.Join j n a) h = absurd h
read_of_round y (event.Begin j m) h = absurd h
read_of_round y (event.Turned j) h = absurd h
read_of_round y (event.Carry j) h = absurd h
read_of_round y (event.Read j r) h = tt
read_of_round y (event.Ordered j o) h = absurd h
read_of_round y (event.Leave j) h = absurd h
read_of_round y (event.Inject f) h = absurd h

-- the stations read
reading : (n : ℕ) (a b : GarageValue) → EachReads n a b → Comes a b
unfolding EachReads
reading zero a b h = comes_same a b h
reading (suc n) a b h = comes_on a h.0 b (reading n a h.0 h.1) (h.2.0, lead_as (IsReadOf n) IsOfRound (read_of_round n) h.2.0 h.0 b h.2.1)

module _ {P : Type 0} (sitting : P → Sitting) (asked : P → P → Option Question → UnitAnswer → Type 0) where
  heard_events : (n : ℕ) (g : GarageValue) (p : P) (g' : GarageValue) (p' : P) → HearsMany sitting asked n g p g' p'
      → (events : List Event) × LeadTo (TellsHearing (sitting p).seat) events g g' × (length events ≡ n) × ((sitting p').seat ≡ (sitting p).seat)
  unfolding HearsMany LeadTo
  heard_events zero g p g' p' h = ([], h.0, refl, ap (λ x. (sitting x).seat) h.1)
  heard_events (suc n) g p g' p' h =
      let i = heard_events n g p h.1 h.2 h.3 in
      (event.Hear (sitting h.2).seat (sitting h.2).memory h.4.answer ∷ i.0, (h.1, i.1, h.4.adds, ((sitting h.2).memory, h.4.answer, ap (λ j. event.Hear j (sitting h.2).memory h.4.answer) i.3)), omega (arith, i.2), h.4.seat ∙ i.3)

  heard_by : (k n : ℕ) (g : GarageValue) (p : P) (g' : GarageValue) (p' : P) → (sitting p).seat ≡ k → HearsMany sitting asked n g p g' p' → HeardBy k n g g'
  heard_by k n g p g' p' its h =
      let i = heard_events n g p g' p' h in
      (i.0, subst (λ j. LeadTo (TellsHearing j) i.0 g g') its i.1, i.2)

  hearing : (n : ℕ) (g : GarageValue) (p : P) (g' : GarageValue) (p' : P) → HearsMany sitting asked n g p g' p' → Comes g g'
  hearing n g p g' p' h =
      let i = heard_events n g p g' p' h in
      (i.0, lead_as (TellsHearing (sitting p).seat) IsOfRound (hear_of_round (sitting p).seat) i.0 g g' i.1)

  in_turn : (n : ℕ) (g : GarageValue) (us : List P) (g' : GarageValue) (us' : List P) → HearInTurn sitting asked n g us g' us' → Comes g g'
  unfolding HearInTurn
  in_turn zero g us g' us' h = comes_same g g' h.0
  in_turn (suc n) g us g' us' h = comes_on g h.0 g' (in_turn n g us h.0 h.1 h.2) (hearing h.3.heard.count h.0 h.3.before g' h.3.after h.3.heard.heard)

  listening : (g : GarageValue) (us : List P) (g' : GarageValue) (us' : List P) → Listens sitting asked g us g' us' → Comes g g'
  listening g us g' us' h = comes_on g h.heard g' (in_turn (length us) g us h.heard us' h.hears) (reading (length g.settings.stations) h.heard g' h.reads)

  rounds : (n : ℕ) (g : GarageValue) (us : List P) (g' : GarageValue) (us' : List P) → AreRounds sitting asked n g us g' us' → Comes g g'
  unfolding AreRounds
  rounds zero g us g' us' h = comes_same g g' h.0
  rounds (suc n) g us g' us' h =
      comes_on g h.0 g' (rounds n g us h.0 h.2 h.5)
      (comes_on h.0 h.1 g' (listening h.0 h.2 h.1 us' h.6) (let carry : AddsCarry h.1 (carried.Frame h.3 h.4) g' = h.7 in (event.Carry h.3 ∷ [], lead_one IsOfRound (event.Carry h.3) h.1 g' carry.1 tt)))

  have_rounds : (n : ℕ) (g : GarageValue) (us : List P) (g' : GarageValue) (us' : List P) → HaveRounds sitting asked n g us g' us' → Comes g g'
  have_rounds n g us g' us' h = comes_on g h.here g' (rounds n g us h.here h.others h.rounds) (listening h.here h.others g' us' h.listens)

  cut_listening : (e : GarageError) (g : GarageValue) (us : List P) (g' : GarageValue) (us' : List P) → IsListeningCut sitting asked e g us g' us' → Comes g g'
  cut_listening e g us g' us' = ⊎_elim
      (λ h. comes_on g h.here g' (in_turn h.number g us h.here h.others h.turn) (hearing h.count h.here h.before g' h.after h.cut.heard))
      (λ h. comes_on g h.heard g' (in_turn (length us) g us h.heard us' h.hears)
      (comes_on h.heard h.cut.before g' (reading h.cut.station h.heard h.cut.before h.cut.turn)
      (h.cut.reads.0, lead_as (IsReadOf h.cut.station) IsOfRound (read_of_round h.cut.station) h.cut.reads.0 h.cut.before g' h.cut.reads.1)))

  cut_rounds : (most : ℕ) (e : GarageError) (g : GarageValue) (us : List P) (g' : GarageValue) (us' : List P) → IsRoundCut sitting asked most e g us g' us' → Comes g g'
  cut_rounds most e g us g' us' = ⊎_elim
      (λ h. comes_on g h.here g' (rounds h.count g us h.here h.others h.rounds) (cut_listening e h.here h.others g' us' h.cut))
      (λ h. have_rounds h.count g us g' us' h.rounds)

  by_rounds : (most : ℕ) (r : Result LineAnswer Refusal) (g : GarageValue) (us : List P) (g' : GarageValue) (us' : List P) → RunsRounds sitting asked most r g us g' us' → MovesByRounds most r g g'
  by_rounds most (Ok (answer.Carried n end)) g us g' us' h = (have_rounds n g us g' us' h.0, h.1)
  by_rounds most (Ok answer.Done) g us g' us' h = h
  by_rounds most (Ok (answer.Seat n)) g us g' us' h = h
  by_rounds most (Ok (answer.Heard n)) g us g' us' h = h
  by_rounds most (Ok answer.Begun) g us g' us' h = h
  by_rounds most (Ok answer.Held) g us g' us' h = h
  by_rounds most (Ok (answer.Read n)) g us g' us' h = h
  by_rounds most (Ok (answer.Row row)) g us g' us' h = h
  by_rounds most (Ok (answer.Counts c)) g us g' us' h = h
  by_rounds most (Ok (answer.Stats m u)) g us g' us' h = h
  by_rounds most (Ok (answer.Injected n)) g us g' us' h = h
  by_rounds most (Ok (answer.Frame f)) g us g' us' h = h
  by_rounds most (Err (refusal.Garage e)) g us g' us' h = ⊎_elim (λ same. comes_same g g' same.1) (cut_rounds most e g us g' us') h
  by_rounds most (Err refusal.BadLine) g us g' us' h = h
  by_rounds most (Err refusal.NoSeat) g us g' us' h = h
  by_rounds most (Err (refusal.Name e)) g us g' us' h = h
  by_rounds most (Err (refusal.Pgn e)) g us g' us' h = h
  by_rounds most (Err (refusal.Frame e)) g us g' us' h = h
  by_rounds most (Err (refusal.Fault e)) g us g' us' h = h

  -- a unit that is not there, or unknown, is told as a refusal, and nothing changed
  refused : (k : ℕ) (r : Result LineAnswer Refusal) (g : GarageValue) (us : List P) (g' : GarageValue) (us' : List P) → IsNotThere sitting k r g us g' us' → (e : Refusal) × (r ≡ Err e) × (g' ≡ g) × IsNoUnit e
  refused k r g us g' us' = ⊎_elim (λ h. (refusal.NoSeat, h.0, h.1, inl refl)) (λ h. (refusal.Garage Stranger, h.0, h.1, inr refl))

  by_hearing : (k most : ℕ) (r : Result LineAnswer Refusal) (g : GarageValue) (p : P) (g' : GarageValue) (p' : P) → (sitting p).seat ≡ k → HearsSo sitting asked most r g p g' p' → MovesByHearing k most r g g'
  by_hearing k most (Ok (answer.Heard n)) g p g' p' its h =
      (heard_by k n g p g' p' its h.0, h.1, λ l. subst (λ j. HasHeardAll j g') its (h.2 l))
  by_hearing k most (Ok answer.Done) g p g' p' its h = h
  by_hearing k most (Ok (answer.Seat n)) g p g' p' its h = h
  by_hearing k most (Ok answer.Begun) g p g' p' its h = h
  by_hearing k most (Ok answer.Held) g p g' p' its h = h
  by_hearing k most (Ok (answer.Carried n end)) g p g' p' its h = h
  by_hearing k most (Ok (answer.Read n)) g p g' p' its h = h
  by_hearing k most (Ok (answer.Row row)) g p g' p' its h = h
  by_hearing k most (Ok (answer.Counts c)) g p g' p' its h = h
  by_hearing k most (Ok (answer.Stats m u)) g p g' p' its h = h
  by_hearing k most (Ok (answer.Injected n)) g p g' p' its h = h
  by_hearing k most (Ok (answer.Frame f)) g p g' p' its h = h
  by_hearing k most (Err (refusal.Garage e)) g p g' p' its h =
      inr (e, h.0, refl, h.1, heard_by k h.0 g p g' p' its h.2.heard, subst (λ j. IsSome (next_for (state_of g') j)) its h.2.left, h.2.want)
  by_hearing k most (Err refusal.BadLine) g p g' p' its h = absurd h
  by_hearing k most (Err refusal.NoSeat) g p g' p' its h = absurd h
  by_hearing k most (Err (refusal.Name e)) g p g' p' its h = absurd h
  by_hearing k most (Err (refusal.Pgn e)) g p g' p' its h = absurd h
  by_hearing k most (Err (refusal.Frame e)) g p g' p' its h = absurd h
  by_hearing k most (Err (refusal.Fault e)) g p g' p' its h = absurd h

  by_beginning : (k : ℕ) (r : Result LineAnswer Refusal) (g : GarageValue) (p : P) (g' : GarageValue) (p' : P) → (sitting p).seat ≡ k → BeginsSo sitting r g p g' p' → MovesByBeginning k r g g'
  by_beginning k (Ok answer.Begun) g p g' p' its h = ((sitting p).memory, subst (λ j. Begins g j (sitting p).memory begin.Begun g') its h)
  by_beginning k (Ok answer.Held) g p g' p' its h = ((sitting p).memory, subst (λ j. Begins g j (sitting p).memory begin.Held g') its h)
  by_beginning k (Ok answer.Done) g p g' p' its h = h
  by_beginning k (Ok (answer.Seat n)) g p g' p' its h = h
  by_beginning k (Ok (answer.Heard n)) g p g' p' its h = h
  by_beginning k (Ok (answer.Carried n end)) g p g' p' its h = h
  by_beginning k (Ok (answer.Read n)) g p g' p' its h = h
  by_beginning k (Ok (answer.Row row)) g p g' p' its h = h
  by_beginning k (Ok (answer.Counts c)) g p g' p' its h = h
  by_beginning k (Ok (answer.Stats m u)) g p g' p' its h = h
  by_beginning k (Ok (answer.Injected n)) g p g' p' its h = h
  by_beginning k (Ok (answer.Frame f)) g p g' p' its h = h
  by_beginning k (Err (refusal.Garage e)) g p g' p' its h = (inr (subst (λ j. BeginsNone j g e) its h.0), h.1)
  by_beginning k (Err refusal.BadLine) g p g' p' its h = absurd h
  by_beginning k (Err refusal.NoSeat) g p g' p' its h = absurd h
  by_beginning k (Err (refusal.Name e)) g p g' p' its h = absurd h
  by_beginning k (Err (refusal.Pgn e)) g p g' p' its h = absurd h
  by_beginning k (Err (refusal.Frame e)) g p g' p' its h = absurd h
  by_beginning k (Err (refusal.Fault e)) g p g' p' its h = absurd h

  by_turning : (k : ℕ) (r : Result LineAnswer Refusal) (g : GarageValue) (p : P) (g' : GarageValue) (p' : P) → (sitting p).seat ≡ k → TurnsSo sitting r g p g' p' → MovesByTurning k r g g'
  by_turning k (Ok a) g p g' p' its h = (h.0, subst (λ j. Adds g (event.Turned j) g') its h.1)
  by_turning k (Err (refusal.Garage e)) g p g' p' its h = (inr h.0, h.1)
  by_turning k (Err refusal.BadLine) g p g' p' its h = absurd h
  by_turning k (Err refusal.NoSeat) g p g' p' its h = absurd h
  by_turning k (Err (refusal.Name e)) g p g' p' its h = absurd h
  by_turning k (Err (refusal.Pgn e)) g p g' p' its h = absurd h
  by_turning k (Err (refusal.Frame e)) g p g' p' its h = absurd h
  by_turning k (Err (refusal.Fault e)) g p g' p' its h = absurd h

  by_leaving : (k : ℕ) (r : Result LineAnswer Refusal) (g : GarageValue) (us : List P) (g' : GarageValue) (us' : List P) → Leaves sitting k r g us g' us' → MovesByLeaving k r g g'
  by_leaving k r g us g' us' = ⊎_elim
      (λ h. subst (λ x. MovesByLeaving k x g g') (sym h.0) (refl, h.1))
      (λ h. let n = refused k r g us g' us' h in subst (λ x. MovesByLeaving k x g g') (sym n.1) (n.3, n.2))

  by_changing : (c : CodeChange) (spn fmi count : ℕ) (r : Result LineAnswer Refusal) (g : GarageValue) (p : P) (g' : GarageValue) (p' : P) → g' ≡ g → ChangesSo sitting c spn fmi count r p p' → StaysByChanging r g g'
  by_changing c spn fmi count (Ok a) g p g' p' same h = (h.0, same)
  by_changing c spn fmi count (Err (refusal.Fault e)) g p g' p' same h = same
  by_changing c spn fmi count (Err refusal.BadLine) g p g' p' same h = absurd h
  by_changing c spn fmi count (Err refusal.NoSeat) g p g' p' same h = absurd h
  by_changing c spn fmi count (Err (refusal.Name e)) g p g' p' same h = absurd h
  by_changing c spn fmi count (Err (refusal.Pgn e)) g p g' p' same h = absurd h
  by_changing c spn fmi count (Err (refusal.Frame e)) g p g' p' same h = absurd h
  by_changing c spn fmi count (Err (refusal.Garage e)) g p g' p' same h = absurd h

  none_changed : (e : Refusal) (g g' : GarageValue) → IsNoUnit e → g' ≡ g → StaysByChanging (Err e) g g'
  none_changed (refusal.Fault e) g g' none same = same
  none_changed refusal.BadLine g g' none same = (none, same)
  none_changed refusal.NoSeat g g' none same = (none, same)
  none_changed (refusal.Name e) g g' none same = (none, same)
  none_changed (refusal.Pgn e) g g' none same = (none, same)
  none_changed (refusal.Frame e) g g' none same = (none, same)
  none_changed (refusal.Garage e) g g' none same = (none, same)

  by_lighting : (lamps : LampsValue) (r : Result LineAnswer Refusal) (g : GarageValue) (p : P) (g' : GarageValue) (p' : P) → g' ≡ g → LightsSo sitting lamps r p p' → StaysByUnit r g g'
  by_lighting lamps (Ok a) g p g' p' same h = (h.0, same)
  by_lighting lamps (Err e) g p g' p' same h = absurd h

  pub by_joining : (name address : ℕ) (r : Result LineAnswer Refusal) (g : GarageValue) (us : List P) (g' : GarageValue) (us' : List P) → Joins sitting name address r g us g' us' → MovesByJoining name address r g g'
  by_joining name address (Ok (answer.Seat k)) g us g' us' h = h.0
  by_joining name address (Ok answer.Done) g us g' us' h = h
  by_joining name address (Ok (answer.Heard n)) g us g' us' h = h
  by_joining name address (Ok answer.Begun) g us g' us' h = h
  by_joining name address (Ok answer.Held) g us g' us' h = h
  by_joining name address (Ok (answer.Carried n end)) g us g' us' h = h
  by_joining name address (Ok (answer.Read n)) g us g' us' h = h
  by_joining name address (Ok (answer.Row row)) g us g' us' h = h
  by_joining name address (Ok (answer.Counts c)) g us g' us' h = h
  by_joining name address (Ok (answer.Stats m u)) g us g' us' h = h
  by_joining name address (Ok (answer.Injected n)) g us g' us' h = h
  by_joining name address (Ok (answer.Frame f)) g us g' us' h = h
  by_joining name address (Err (refusal.Garage e)) g us g' us' h = (h.0, h.1)
  by_joining name address (Err refusal.BadLine) g us g' us' h = absurd h
  by_joining name address (Err refusal.NoSeat) g us g' us' h = absurd h
  by_joining name address (Err (refusal.Name e)) g us g' us' h = absurd h
  by_joining name address (Err (refusal.Pgn e)) g us g' us' h = absurd h
  by_joining name address (Err (refusal.Frame e)) g us g' us' h = absurd h
  by_joining name address (Err (refusal.Fault e)) g us g' us' h = absurd h

  none_began : (k : ℕ) (e : Refusal) (g g' : GarageValue) → IsNoUnit e → g' ≡ g → MovesByBeginning k (Err e) g g'
  none_began k e g g' none same = ⊎_elim
      (λ is. subst (λ x. MovesByBeginning k (Err x) g g') (sym is) (refl, same))
      (λ is. subst (λ x. MovesByBeginning k (Err x) g g') (sym is) (inl refl, same))
      none

  none_turned : (k : ℕ) (e : Refusal) (g g' : GarageValue) → IsNoUnit e → g' ≡ g → MovesByTurning k (Err e) g g'
  none_turned k e g g' none same = ⊎_elim
      (λ is. subst (λ x. MovesByTurning k (Err x) g g') (sym is) (refl, same))
      (λ is. subst (λ x. MovesByTurning k (Err x) g g') (sym is) (inl refl, same))
      none

  -- what one unit did, or that there is none, by what it leaves of the garage
  by_one : (k : ℕ) (c : Command) (Q : Result LineAnswer Refusal → Type 0) (r : Result LineAnswer Refusal) (g : GarageValue) (us : List P) (g' : GarageValue) (us' : List P)
      → ((p p' : P) → (sitting p).seat ≡ k → UnitDoes sitting asked c r g p g' p' → Q r) → ((e : Refusal) → r ≡ Err e → g' ≡ g → IsNoUnit e → Q r) → ActsBy sitting asked k c r g us g' us' → Q r
  by_one k c Q r g us g' us' did none = ⊎_elim
      (λ h. did h.before h.after h.its h.did)
      (λ h. let n = refused k r g us g' us' h in none n.0 n.1 n.2 n.3)

  pub moves : (y : ℕ) (c : Command) (r : Result LineAnswer Refusal) (g : GarageValue) (us : List P) (g' : GarageValue) (us' : List P) → Does sitting asked y c r g us g' us' → Moves y c r g g'
  moves y (command.Carry most) r g us g' us' h = h.0
  moves y (command.Read most) r g us g' us' h = h.0
  moves y (command.Round most) r g us g' us' h = by_rounds most r g us g' us' h
  moves y (command.Ask to what) r g us g' us' h = h.0
  moves y (command.Command name address) r g us g' us' h = h.0
  moves y (command.Inject frame) r g us g' us' h = h.0
  moves y (command.Hear k most) r g us g' us' h = by_one k (command.Hear k most) (λ x. MovesByHearing k most x g g') r g us g' us'
      (λ p p' its d. by_hearing k most r g p g' p' its d) (λ e is same none. subst (λ x. MovesByHearing k most x g g') (sym is) (inl (none, same))) h
  moves y (command.Dm1 k) r g us g' us' h = by_one k (command.Dm1 k) (λ x. MovesByBeginning k x g g') r g us g' us'
      (λ p p' its d. by_beginning k r g p g' p' its d) (λ e is same none. subst (λ x. MovesByBeginning k x g g') (sym is) (none_began k e g g' none same)) h
  moves y (command.Turn k) r g us g' us' h = by_one k (command.Turn k) (λ x. MovesByTurning k x g g') r g us g' us'
      (λ p p' its d. by_turning k r g p g' p' its d) (λ e is same none. subst (λ x. MovesByTurning k x g g') (sym is) (none_turned k e g g' none same)) h
  moves y (command.Leave k) r g us g' us' h = by_leaving k r g us g' us' h
  moves y (command.Change k c spn fmi count) r g us g' us' h = by_one k (command.Change k c spn fmi count) (λ x. StaysByChanging x g g') r g us g' us'
      (λ p p' its d. by_changing c spn fmi count r g p g' p' d.0 d.1) (λ e is same none. subst (λ x. StaysByChanging x g g') (sym is) (none_changed e g g' none same)) h
  moves y (command.Lamps k lamps) r g us g' us' h = by_one k (command.Lamps k lamps) (λ x. StaysByUnit x g g') r g us g' us'
      (λ p p' its d. by_lighting lamps r g p g' p' d.0 d.1) (λ e is same none. subst (λ x. StaysByUnit x g g') (sym is) (none, same)) h
  moves y (command.Think k) r g us g' us' h = by_one k (command.Think k) (λ x. StaysByUnit x g g') r g us g' us'
      (λ p p' its d. subst (λ x. StaysByUnit x g g') (sym d.1.0) (refl, d.0)) (λ e is same none. subst (λ x. StaysByUnit x g g') (sym is) (none, same)) h
  moves y (command.Garage name address window grant limit) r g us g' us' h = h.1
  moves y (command.Garage2 limit first second) r g us g' us' h = h.1
  moves y (command.Join name address kind) r g us g' us' h = h.1
  moves y (command.Shown name kind) r g us g' us' h = h.1
  moves y (command.Row name) r g us g' us' h = h.1
  moves y (command.Counts k) r g us g' us' h = h.1
  moves y command.Stats r g us g' us' h = h.1
  moves y (command.Frame index) r g us g' us' h = h.1
  moves y command.Injected r g us g' us' h = h.1
  moves y command.Report r g us g' us' h = h.1
