-- With its last packet a message is whole; with any other it is not.
use Rattle.std.proofs.Common.{◌≡◌, ℕ, Bool, true, false, List, Option, Some, None, is_some, if◌then◌else◌, refl}
use Rattle.reassembly.specs.Partials.{answer_to, is_whole, took_by, with_packet}
use Rattle.transport.specs.declared.took.Took.{Took}
use Rattle.transport.specs.declared.took.Took.TheVariants.{More, Whole, Broken}
use Rattle.transport.specs.Pieces.{joined}
use Rattle.shared_groups.specs.Sharing.{SharedJoining, MessageValue, message_ended, newer_message}

whole_by : (m : MessageValue) (b : Bool) → (if b then Whole else More) ≡ Whole → is_some (if b then Some m else None) ≡ true
whole_by m true e = refl
whole_by m false e = absurd (let clash : More ≡ Whole = e in cc)

more_by : (m : MessageValue) (b : Bool) → (if b then Whole else More) ≡ More → (if b then Some m else None) ≡ None
more_by m true e = absurd (let clash : Whole ≡ More = e in cc)
more_by m false e = refl

never_broken : (b : Bool) → (if b then Whole else More) ≡ Broken → ⊥
never_broken true e = (let clash : Whole ≡ Broken = e in cc)
never_broken false e = (let clash : More ≡ Broken = e in cc)

took_whole : (source : ℕ) (o : Option SharedJoining) → took_by o ≡ Whole → is_some (message_ended source o) ≡ true
took_whole source None e = absurd (let clash : Broken ≡ Whole = e in cc)
took_whole source (Some j) e = whole_by (record { source = source; owner = j.tag.owner; pgn = j.tag.pgn; bytes = joined j.size j.pieces }) (is_whole j) e

took_more : (source : ℕ) (o : Option SharedJoining) → took_by o ≡ More → message_ended source o ≡ None
took_more source None e = refl
took_more source (Some j) e = more_by (record { source = source; owner = j.tag.owner; pgn = j.tag.pgn; bytes = joined j.size j.pieces }) (is_whole j) e

took_broken : (source : ℕ) (o : Option SharedJoining) → took_by o ≡ Broken → message_ended source o ≡ None
took_broken source None e = refl
took_broken source (Some j) e = absurd (never_broken (is_whole j) e)

some_injects : (s t : Took) → Some s ≡ Some t → s ≡ t
some_injects s t e = cc

pub whole_came : (source : ℕ) (bytes : List ℕ) (half : Option SharedJoining) → answer_to bytes half ≡ Some Whole
    → is_some (message_ended source (with_packet bytes half)) ≡ true
whole_came source bytes None e = absurd (let clash : None ≡ Some Whole = e in cc)
whole_came source bytes (Some j) e = took_whole source (with_packet bytes (Some j)) (some_injects _ _ e)

newer_some : (o before : Option MessageValue) → is_some o ≡ true → newer_message o before ≡ o
newer_some None before e = absurd (let clash : false ≡ true = e in cc)
newer_some (Some m) before e = refl

pub whole_is_newer : (source : ℕ) (bytes : List ℕ) (half : Option SharedJoining) (before : Option MessageValue) → answer_to bytes half ≡ Some Whole
    → newer_message (message_ended source (with_packet bytes half)) before ≡ message_ended source (with_packet bytes half)
whole_is_newer source bytes half before e = newer_some (message_ended source (with_packet bytes half)) before (whole_came source bytes half e)

pub more_is_none : (source : ℕ) (bytes : List ℕ) (half : Option SharedJoining) → answer_to bytes half ≡ Some More → message_ended source (with_packet bytes half) ≡ None
more_is_none source bytes None e = absurd (let clash : None ≡ Some More = e in cc)
more_is_none source bytes (Some j) e = took_more source (with_packet bytes (Some j)) (some_injects _ _ e)

pub broken_is_none : (source : ℕ) (bytes : List ℕ) (half : Option SharedJoining) → answer_to bytes half ≡ Some Broken → message_ended source (with_packet bytes half) ≡ None
broken_is_none source bytes None e = absurd (let clash : None ≡ Some Broken = e in cc)
broken_is_none source bytes (Some j) e = took_broken source (with_packet bytes (Some j)) (some_injects _ _ e)
