-- What is half sent from an address is its owner's, or nobody's while it has none.
use Rattle.std.proofs.Common.{◌≡◌, ℕ, Bool, true, false, ◌==◌, List, [], ◌∷◌, ◌++◌, Option, Some, None, if◌then◌else◌, refl, sym, ap, arith, ◌∙◌}
use Rattle.address_claim.specs.Claiming.{is_held}
use Rattle.can_frame.specs.FrameValue.{FrameValue}
use Rattle.can_frame.specs.declared.reading.Reading.{Reading}
use Rattle.can_frame.specs.declared.reading.Reading.TheVariants.{Empty, Frame, Gap}
use Rattle.parameter_group.specs.Group.{AddressClaimed, Group, group_of}
use Rattle.bus_model.specs.Overheard.{HalfSent, between_heard, gaps_heard, is_named, kept_by_name, who_at, who_heard}
use Rattle.bus_model.specs.OverheardBack.{EndNone, EndsNone, IsAnnouncement}
use Rattle.bus_model.specs.Traffic.{owner_after}
use Rattle.bus_model.specs.declared.who.Who.{Who}
use Rattle.bus_model.specs.Heard.{owner_heard}
use Rattle.bus_model.proofs.Between.{between_back}
use Rattle.bus_model.proofs.Lookback.{true_test}

announcing_claims_none : (a d size pgn : ℕ) (g : Group) (o : Option ℕ) → IsAnnouncement a d size pgn g → owner_after a g o ≡ o
announcing_claims_none a d size pgn (AddressClaimed s n) o i = absurd i
announcing_claims_none a d size pgn _ o i = refl

who_goes_on : (a d : ℕ) (w : Who) (g : Group) (own : Option ℕ) (gaps : ℕ) → EndsNone a d w g → w ≡ who_at own a gaps → w ≡ who_at (owner_after a g own) a gaps
who_goes_on a d w (AddressClaimed s n) own gaps none is = go (s == a) refl
  where
    go : (b : Bool) → (s == a) ≡ b → w ≡ who_at (if b then Some n else own) a gaps
    go true i = none (true_test s a i)
    go false i = is
who_goes_on a d w _ own gaps none is = is

who_kept : (a d size pgn : ℕ) (w : Who) (since : List Reading) (start : FrameValue) (before : List Reading) → IsAnnouncement a d size pgn (group_of start) → EndNone a d w since → w ≡ who_heard a before
    → w ≡ who_heard a (since ++ Frame start ∷ before)
who_kept a d size pgn w [] start before i none is = is ∙ ap (λ (o : Option ℕ). who_at o a (gaps_heard before)) (sym (announcing_claims_none a d size pgn (group_of start) (owner_heard a before) i))
who_kept a d size pgn w (Gap m ∷ since) start before i none is = absurd none
who_kept a d size pgn w (Empty ∷ since) start before i none is = who_kept a d size pgn w since start before i none is
who_kept a d size pgn w (Frame f ∷ since) start before i none is =
    who_goes_on a d w (group_of f) (owner_heard a (since ++ Frame start ∷ before)) (gaps_heard (since ++ Frame start ∷ before)) none.0 (who_kept a d size pgn w since start before i none.1 is)

-- whose it is
half_who : (a d : ℕ) (h : List Reading) (j : HalfSent) → between_heard a d h ≡ Some j → j.tag.who ≡ who_heard a h
half_who a d h j e =
    let b = between_back a d h j e in
    who_kept a d j.size b.pgn j.tag.who b.since b.start b.before b.starts b.quiet b.who ∙ ap (who_heard a) (sym b.split)

named_by : (n : ℕ) (own : Option ℕ) (a gaps : ℕ) → is_named n (who_at own a gaps) ≡ is_held own n
named_by n None a gaps = refl
named_by n (Some m) a gaps = grind arith

-- a claim by the owner keeps it all, one by another NAME none
pub kept_whole : (n a d : ℕ) (h : List Reading) → is_held (owner_heard a h) n ≡ true → kept_by_name n (between_heard a d h) ≡ between_heard a d h
kept_whole n a d h own = go (between_heard a d h) refl
  where
    go : (o : Option HalfSent) → between_heard a d h ≡ o → kept_by_name n o ≡ o
    go None i = refl
    go (Some j) i = (let t : is_named n j.tag.who ≡ true = ap (is_named n) (half_who a d h j i) ∙ (named_by n (owner_heard a h) a (gaps_heard h) ∙ own) in rw t refl)

pub kept_none : (n a d : ℕ) (h : List Reading) → is_held (owner_heard a h) n ≡ false → kept_by_name n (between_heard a d h) ≡ None
kept_none n a d h own = go (between_heard a d h) refl
  where
    go : (o : Option HalfSent) → between_heard a d h ≡ o → kept_by_name n o ≡ None
    go None i = refl
    go (Some j) i = (let t : is_named n j.tag.who ≡ false = ap (is_named n) (half_who a d h j i) ∙ (named_by n (owner_heard a h) a (gaps_heard h) ∙ own) in rw t refl)
