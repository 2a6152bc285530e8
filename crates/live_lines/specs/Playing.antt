-- What those who take part in a bus are called for, and what a playback of its lines writes.
use Rattle.std.specs.Prelude.{ℕ, ◌≡◌, ◌+◌, ◌-◌, ◌≤◌, ◌<◌, ◌||◌, Bool, false, not, max, nat_lt, List, [], ◌∷◌, ◌++◌, Option, Some, None, MatchOption, is_some, if◌then◌else◌}
use Rattle.std.specs.List.{flat_map}
use Rattle.std.specs.Option.{unwrap_or}
use Rattle.can_frame.specs.FrameValue.{FrameValue}
use Rattle.candump_line.specs.LineText.{line_text}
use Rattle.live_lines.specs.declared.ear.HeardFrame.{HeardFrame}

-- a call: a frame of a line is heard; so many frames were not read; the frame that goes is asked for, if one does; that it was written is told
pub data BusCall : Type 0 where
  Hears : HeardFrame → BusCall
  Misses : ℕ → BusCall
  Steps : Option FrameValue → BusCall
  Echoes : HeardFrame → BusCall

-- what they come to by a call at a time, and when they say at a time that they are to be asked again
pub record Players (S : Type 0) : Type 1 where
  pub does : S → BusCall → ℕ → S → Type 0
  pub looks : S → ℕ → ℕ → Type 0

-- a time at which they were asked, and the frame that went, if one did
pub record Asking : Type 0 where
  pub at : ℕ
  pub frame : Option FrameValue

-- the line of the frame that went, at its time
abbrev pub went_text : List ℕ → ℕ → Option FrameValue → List ℕ
went_text bus at None = []
went_text bus at (Some f) = line_text at bus f ++ 10 ∷ []

abbrev pub asking_text : List ℕ → Asking → List ℕ
asking_text bus m = went_text bus m.at m.frame

-- a frame that went is told as written, behind the latest line, before they are asked again
abbrev pub IsEchoed : {S : Type 0} → (S → BusCall → ℕ → S → Type 0) → ℕ → ℕ → Option FrameValue → S → S → Type 0
IsEchoed does line at None s s' = s' ≡ s
IsEchoed does line at (Some f) s s' = does s (Echoes (record { frame = f; line = line; time = Some at })) at s'

abbrev pub IsAsking : {S : Type 0} → (S → BusCall → ℕ → S → Type 0) → ℕ → Asking → S → S → Type 0
IsAsking {S} does line m s s' = (t : S) × does s (Steps m.frame) m.at t × IsEchoed does line m.at m.frame t s'

-- one after another
unfoldable pub AreAskings : {S : Type 0} → (S → BusCall → ℕ → S → Type 0) → ℕ → List Asking → S → S → Type 0
AreAskings does line [] s s' = s' ≡ s
AreAskings {S} does line (m ∷ ms) s s' = (t : S) × IsAsking does line m s t × AreAskings does line ms t s'

-- at times that do not fall, from one to another
unfoldable pub AreInTime : ℕ → ℕ → List Asking → Type 0
AreInTime from until [] = from ≤ until
AreInTime from until (m ∷ ms) = (from ≤ m.at) × AreInTime m.at until ms

-- no more goes by a time: none went when they were last asked, and they are to be asked again later than that
pub record IsPlayedOut {S : Type 0} (looks : S → ℕ → ℕ → Type 0) (until : ℕ) (askings : List Asking) (s : S) : Type 0 where
  pub before : List Asking
  pub last : Asking
  pub ends : askings ≡ before ++ last ∷ []
  pub none : last.frame ≡ None
  pub again : ℕ
  pub asked : looks s last.at again
  pub later : until < max again (last.at + 1)

-- all that goes from a time to another went, and this is written of it
pub record PlaysTo {S : Type 0} (by : Players S) (bus : List ℕ) (line from until : ℕ) (s s' : S) (text : List ℕ) : Type 0 where
  pub askings : List Asking
  pub went : AreAskings by.does line askings s s'
  pub times : AreInTime from until askings
  pub over : IsPlayedOut by.looks until askings s'
  pub written : text ≡ flat_map (asking_text bus) askings

-- the clock stands at the time of the latest line, once one had a time; it begins anew at a line with this time: at the first time of all, and at one more than a day after that of the line before
abbrev pub begins_anew : Option ℕ → Bool → Option ℕ → Bool
begins_anew (Some before) timed (Some time) = not timed || nat_lt 86400000000 (time - before)
begins_anew _ timed _ = false

abbrev pub clock_before : Option ℕ → Bool → Option ℕ → Option ℕ
clock_before clock timed time = if begins_anew clock timed time then None else clock

-- when a line with this time is heard: not before the line before it
abbrev pub heard_at : Option ℕ → Option ℕ → ℕ
heard_at clock None = unwrap_or clock 0
heard_at clock (Some time) = max time (unwrap_or clock 0)

-- where the clock stands behind a line, and whether one had a time
abbrev pub StandsAt : Option HeardFrame → Option ℕ → Bool → Option ℕ → Bool → Type 0
StandsAt None clock timed clock' timed' = (clock' ≡ clock) × (timed' ≡ timed)
StandsAt (Some h) clock timed clock' timed' = (clock' ≡ Some (heard_at (clock_before clock timed h.time) h.time)) × (timed' ≡ (timed || is_some h.time))

-- what goes by the time of the latest line
abbrev pub PlaysOut : {S : Type 0} → Players S → List ℕ → ℕ → Option ℕ → S → S → List ℕ → Type 0
PlaysOut by bus line None s s' text = (s' ≡ s) × (text ≡ [])
PlaysOut by bus line (Some now) s s' text = PlaysTo by bus line now now s s' text

-- they are told of frames that were not read behind that
abbrev pub PlaysMissed : {S : Type 0} → Players S → List ℕ → ℕ → Option ℕ → ℕ → S → S → List ℕ → Type 0
PlaysMissed {S} by bus line clock missed s s' text =
    (missed ≡ 0 → (s' ≡ s) × (text ≡ [])) × (0 < missed → (t : S) × PlaysOut by bus line clock s t text × by.does t (Misses missed) (unwrap_or clock 0) s')

-- they hear a frame behind what goes by its time
abbrev pub PlaysHeard : {S : Type 0} → Players S → List ℕ → ℕ → Option ℕ → HeardFrame → S → S → List ℕ → Type 0
PlaysHeard {S} by bus line clock h s s' text =
    (t : S) × PlaysTo by bus line (unwrap_or clock (heard_at clock h.time)) (heard_at clock h.time) s t text × by.does t (Hears h) (heard_at clock h.time) s'

-- a line that is this to them was taken
pub record PlaysLine {S : Type 0} (by : Players S) (bus : List ℕ) (line : ℕ) (clock : Option ℕ) (timed : Bool) (missed : ℕ) (heard : Option HeardFrame) (s s' : S) (text : List ℕ) : Type 0 where
  pub first : List ℕ
  pub between : S
  pub second : List ℕ
  pub missing : PlaysMissed by bus line clock missed s between first
  pub hearing : MatchOption heard ((s' ≡ between) × (second ≡ [])) (λ h. PlaysHeard by bus line (clock_before clock timed h.time) h between s' second)
  pub written : text ≡ first ++ second
