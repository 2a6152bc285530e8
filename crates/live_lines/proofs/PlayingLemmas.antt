-- What a playback wrote so far, and what comes of asking once more.
use Rattle.std.proofs.Common.{◌≡◌, ℕ, ◌+◌, ◌<◌, ◌≤◌, ◌∙◌, Bool, false, max, List, [], ◌∷◌, ◌++◌, Option, Some, None, IfSome, MatchOption, is_some, ap, append-nil, arith, refl, subst, sym}
use Rattle.std.specs.Io.KnownBytes.{Appends}
use Rattle.std.specs.List.{flat_map}
use Rattle.std.proofs.KnownBytes.{Appends-nil, Appends-trans}
use Rattle.std.proofs.lemmas.List.Concat.{flat_map-append}
use Rattle.std.specs.Option.{unwrap_or}
use Rattle.can_frame.specs.FrameValue.{FrameValue}
use Rattle.live_lines.specs.Playing.{AreInTime, AreAskings, BusCall, IsAsking, Asking, Players, PlaysHeard, PlaysLine, PlaysMissed, PlaysTo, StandsAt, clock_before, asking_text, went_text}
use Rattle.live_lines.specs.declared.ear.HeardFrame.{HeardFrame}

-- asked once more
asking_more : {S : Type 0} (does : S → BusCall → ℕ → S → Type 0) (line : ℕ) (ms : List Asking) (m : Asking) (s t u : S)
    → AreAskings does line ms s t → IsAsking does line m t u → AreAskings does line (ms ++ m ∷ []) s u
unfolding AreAskings
asking_more does line [] m s t u h one = (u, subst (λ x. IsAsking does line m x u) h one, refl)
asking_more does line (k ∷ ks) m s t u h one = (h.0, h.1, asking_more does line ks m h.0 t u h.2 one)

time_more : (from now : ℕ) (ms : List Asking) (m : Asking) → m.at ≡ now → AreInTime from now ms → AreInTime from now (ms ++ m ∷ [])
unfolding AreInTime
time_more from now [] m at h = (omega (arith, at, h), omega (arith, at))
time_more from now (k ∷ ks) m at h = (h.0, time_more k.at now ks m at h.1)

time_later : (from now next : ℕ) (ms : List Asking) → now ≤ next → AreInTime from now ms → AreInTime from next ms
unfolding AreInTime
time_later from now next [] l h = omega (arith, l, h)
time_later from now next (k ∷ ks) l h = (h.0, time_later k.at now next ks l h.1)

time_none : (from until : ℕ) → from ≤ until → AreInTime from until []
unfolding AreInTime
time_none from until l = l

none_yet : {S : Type 0} (does : S → BusCall → ℕ → S → Type 0) (line : ℕ) (s : S) → AreAskings does line [] s s
unfolding AreAskings
none_yet does line s = refl

-- so far these askings were, the last of them not after a time, and this was written of them
pub record HasPlayed {S : Type 0} (does : S → BusCall → ℕ → S → Type 0) (bus : List ℕ) (line from now : ℕ) (s s' : S) (a b : Option (List ℕ)) : Type 0 where
  pub askings : List Asking
  pub went : AreAskings does line askings s s'
  pub times : AreInTime from now askings
  pub written : Appends a b (flat_map (asking_text bus) askings)

pub nothing_played : {S : Type 0} (does : S → BusCall → ℕ → S → Type 0) (bus : List ℕ) (line from now : ℕ) (s : S) (a : Option (List ℕ)) → from ≤ now → HasPlayed does bus line from now s s a a
nothing_played does bus line from now s a l = record { askings = []; went = none_yet does line s; times = time_none from now l; written = Appends-nil a }

pub more_played : {S : Type 0} (does : S → BusCall → ℕ → S → Type 0) (bus : List ℕ) (line from now : ℕ) (s t u : S) (a b c : Option (List ℕ)) (frame : Option FrameValue)
    → HasPlayed does bus line from now s t a b → IsAsking does line (record { at = now; frame = frame }) t u → Appends b c (went_text bus now frame) → HasPlayed does bus line from now s u a c
more_played does bus line from now s t u a b c frame h one wrote =
    let m : Asking = record { at = now; frame = frame } in
    record {
      askings = h.askings ++ m ∷ [];
      went = asking_more does line h.askings m s t u h.went one;
      times = time_more from now h.askings m refl h.times;
      written = subst (Appends a c) (ap (λ l. flat_map (asking_text bus) h.askings ++ l) (sym (append-nil (asking_text bus m))) ∙ sym (flat_map-append (asking_text bus) h.askings (m ∷ []))) (Appends-trans a b c _ _ h.written wrote);
    }

pub played_later : {S : Type 0} (does : S → BusCall → ℕ → S → Type 0) (bus : List ℕ) (line from now next : ℕ) (s t : S) (a b : Option (List ℕ))
    → now ≤ next → HasPlayed does bus line from now s t a b → HasPlayed does bus line from next s t a b
played_later does bus line from now next s t a b l h = record { askings = h.askings; went = h.went; times = time_later from now next h.askings l h.times; written = h.written }

-- at its beginning
pub begun : {S : Type 0} (does : S → BusCall → ℕ → S → Type 0) (bus : List ℕ) (line : ℕ) (clock : Option ℕ) (until now : ℕ) (s : S) (a : Option (List ℕ))
    → now ≡ unwrap_or clock until → HasPlayed does bus line (unwrap_or clock until) now s s a a
begun does bus line clock until now s a at = nothing_played does bus line (unwrap_or clock until) now s a (omega (arith, at))

pub begun_early : (clock : Option ℕ) (until now : ℕ) → now ≡ unwrap_or clock until → IfSome clock (λ before. before ≤ until) → now ≤ until
begun_early None until now at late = omega (arith, at)
begun_early (Some before) until now at late = omega (arith, at, late)

-- what came of asking at a time
abbrev pub WentSo : {S : Type 0} → (S → BusCall → ℕ → S → Type 0) → List ℕ → ℕ → ℕ → Bool → S → S → Option (List ℕ) → Option (List ℕ) → Type 0
WentSo does bus line now went t u b c =
    (frame : Option FrameValue) × (is_some frame ≡ went) × IsAsking does line (record { at = now; frame = frame }) t u × Appends b c (went_text bus now frame)

no_frame : (frame : Option FrameValue) → is_some frame ≡ false → frame ≡ None
no_frame None e = refl
no_frame (Some f) e = absurd cc

-- none went at a time, and the next is later than the end
pub all_played : {S : Type 0} (by : Players S) (bus : List ℕ) (line from now until again behind : ℕ) (s t u : S) (a b c : Option (List ℕ)) (frame : Option FrameValue) → is_some frame ≡ false
    → now ≤ until → behind ≤ now + 1 → until < max again behind → by.looks u now again
    → HasPlayed by.does bus line from now s t a b → IsAsking by.does line (record { at = now; frame = frame }) t u → Appends b c (went_text bus now frame)
    → (text : List ℕ) × PlaysTo by bus line from until s u text × Appends a c text
unfolding more_played
all_played by bus line from now until again behind s t u a b c frame none early near late looks h one wrote =
    let m : Asking = record { at = now; frame = frame } in
    let all = more_played by.does bus line from now s t u a b c frame h one wrote in (
      flat_map (asking_text bus) all.askings,
      record {
        askings = all.askings;
        went = all.went;
        times = time_later from now until all.askings early all.times;
        over = record { before = h.askings; last = m; ends = refl; none = no_frame frame none; again = again; asked = looks; later = omega (arith, near, late) };
        written = refl;
      },
      all.written,
    )

abbrev empty_text : List ℕ
empty_text = []

-- a line that has no frame for them
pub passed_over : {S : Type 0} (by : Players S) (bus b : List ℕ) (line l : ℕ) (clock : Option ℕ) (timed : Bool) (missed : ℕ) (frame : Option HeardFrame) (s t : S) (a c : Option (List ℕ))
    → b ≡ bus → l ≡ line → frame ≡ None → (text : List ℕ) × PlaysMissed by b l clock missed s t text × Appends a c text
    → (text : List ℕ) × PlaysLine by bus line clock timed missed frame s t text × Appends a c text
passed_over {S} by bus b line l clock timed missed frame s t a c eb el none told =
    let first : PlaysMissed by bus line clock missed s t told.0 =
    subst (λ (x : List ℕ). PlaysMissed by x line clock missed s t told.0) eb (subst (λ (n : ℕ). PlaysMissed by b n clock missed s t told.0) el told.1) in (
      told.0,
      record {
        first = told.0;
        between = t;
        second = empty_text;
        missing = first;
        hearing = subst (λ (o : Option HeardFrame). MatchOption o ((t ≡ t) × (empty_text ≡ [])) (λ h. PlaysHeard by bus line (clock_before clock timed h.time) h t t empty_text)) (sym none) (refl, refl);
        written = sym (append-nil told.0);
      },
      told.2,
    )

-- and one whose frame they hear
pub heard_line : {S : Type 0} (by : Players S) (bus b d : List ℕ) (line l n : ℕ) (clock k : Option ℕ) (timed w : Bool) (missed : ℕ) (frame : Option HeardFrame) (h : HeardFrame) (s t u : S) (a c e : Option (List ℕ))
    → b ≡ bus → d ≡ bus → l ≡ line → n ≡ line → k ≡ clock → w ≡ timed → frame ≡ Some h
    → (text : List ℕ) × PlaysMissed by b l clock missed s t text × Appends a c text
    → (text : List ℕ) × PlaysHeard by d n (clock_before k w h.time) h t u text × Appends c e text
    → (text : List ℕ) × PlaysLine by bus line clock timed missed frame s u text × Appends a e text
heard_line {S} by bus b d line l n clock k timed w missed frame h s t u a c e eb ed el en ek ew some told heard =
    let first : PlaysMissed by bus line clock missed s t told.0 =
    subst (λ (x : List ℕ). PlaysMissed by x line clock missed s t told.0) eb (subst (λ (n : ℕ). PlaysMissed by b n clock missed s t told.0) el told.1) in
    let second : PlaysHeard by bus line (clock_before clock timed h.time) h t u heard.0 =
    subst (λ (x : List ℕ). PlaysHeard by x line (clock_before clock timed h.time) h t u heard.0) ed
    (subst (λ (n : ℕ). PlaysHeard by d n (clock_before clock timed h.time) h t u heard.0) en
    (subst (λ (k : Option ℕ). PlaysHeard by d n (clock_before k timed h.time) h t u heard.0) ek
    (subst (λ (w : Bool). PlaysHeard by d n (clock_before k w h.time) h t u heard.0) ew heard.1))) in (
      told.0 ++ heard.0,
      record {
        first = told.0;
        between = t;
        second = heard.0;
        missing = first;
        hearing = subst (λ (o : Option HeardFrame). MatchOption o ((u ≡ t) × (heard.0 ≡ [])) (λ h. PlaysHeard by bus line (clock_before clock timed h.time) h t u heard.0)) (sym some) second;
        written = refl;
      },
      Appends-trans a c e _ _ told.2 heard.2,
    )

-- where the clock stands then
pub stands_still : (frame : Option HeardFrame) (clock k : Option ℕ) (timed w : Bool) → frame ≡ None → k ≡ clock → w ≡ timed → StandsAt frame clock timed k w
stands_still None clock k timed w none ek ew = (ek, ew)
stands_still (Some h) clock k timed w none ek ew = absurd cc

pub stands_on : (frame : Option HeardFrame) (h : HeardFrame) (clock k k' : Option ℕ) (timed w w' : Bool) → frame ≡ Some h → k ≡ clock → w ≡ timed → StandsAt (Some h) k w k' w' → StandsAt frame clock timed k' w'
stands_on frame h clock k k' timed w w' some ek ew at =
    subst (λ (o : Option HeardFrame). StandsAt o clock timed k' w') (sym some)
    (subst (λ (k : Option ℕ). StandsAt (Some h) k timed k' w') ek (subst (λ (w : Bool). StandsAt (Some h) k w k' w') ew at))
