-- What is shown where neither a unit nor a time is asked for is what was overheard.
use Rattle.std.proofs.Common.{◌≡◌, ℕ, Bool, true, false, ◌&&◌, List, [], ◌∷◌, ◌++◌, Option, Some, None, if◌then◌else◌, reverse, refl, sym, ap, ◌∙◌, subst}
use Rattle.std.proofs.lemmas.Grind.{reverse_onto}
use Rattle.bus_model.specs.Overheard.{EntrySent, MessageSent, entries_overheard, put_sent, put_shown, same_who, sent_by}
use Rattle.bus_model.specs.declared.who.Who.{Who}
use Rattle.can_frame.specs.declared.reading.Reading.{Reading}
use Rattle.can_frame.specs.declared.reading.Reading.TheVariants.{Frame, Gap, Empty}
use Rattle.dm_messages.specs.Tolerant.{shown_by_method, tolerant, trouble_of, whole_or_part}
use Rattle.dm_messages.specs.View.{decoding, same_kind}
use Rattle.dm_messages.specs.declared.kind.Kind.{Kind}
use Rattle.dm_messages.specs.declared.method.ConversionMethod.{ConversionMethod}
use Rattle.dm_messages.specs.declared.shown.Shown.{Shown}
use Rattle.dm_messages.specs.declared.tolerant.MessageRead.{MessageRead}
use Rattle.dm_messages.specs.declared.tolerant.MessageRead.TheVariants.{Whole, InPart}
use Rattle.dm_messages.specs.declared.tolerant.Tolerant.{Tolerant}
use Rattle.dm_messages.specs.declared.trouble.Trouble.{Trouble}
use Rattle.parameter_group.specs.Group.{Acknowledgment, AddressClaimed, CannotClaim, ConnectionManagement, DataTransfer, Diagnostic, Group, Other, Request, group_of}
use Rattle.listener.specs.SentEntries.{entry_if_sent, entry_read, entry_sent, group_sent, put_whole, with_entry_sent}
use Rattle.listener.specs.declared.entry.SentEntry.{SentEntry}
use Rattle.bus_watch.specs.AsOverheard.{AsksForAll, entries_shown, is_shown_between, overheard_shown}
use Rattle.bus_watch.specs.Methods.{entry_by_method, method_of, put_if_whole, read_whole, shown_entry, with_entry_shown}
use Rattle.bus_watch.specs.declared.methods.UnitMethod.{UnitMethod}
use Rattle.bus_watch.specs.declared.shown_entry.ShownEntry.{ShownEntry}
use Rattle.bus_watch.specs.Runs.{Moment, if_shown, is_shown, is_shown_at, lists_shown, readings_in}
use Rattle.bus_watch.specs.declared.selection.Selection.{Selection}
use Rattle.bus_watch.proofs.Units.{same_who_is}

and_true : (b : Bool) → (b && true) ≡ b
and_true true = refl
and_true false = refl

-- each time is shown
any_time : (time : Option ℕ) → is_shown_at None None time ≡ true
any_time None = refl
any_time (Some t) = refl

shown_between : (s : Selection) (time : Option ℕ) (e : SentEntry) → AsksForAll s → is_shown s time e ≡ is_shown_between s e.who e.to
shown_between s time e all = rw (all.unit, all.from, all.to) (
    ap (λ (b : Bool). (is_shown_between s e.who e.to && true) && b) (any_time time) ∙ (and_true (is_shown_between s e.who e.to && true) ∙ and_true (is_shown_between s e.who e.to)))

-- of the list of its own an entry that is shown is one, and one that is not is none
own_shown : (s : Selection) (u w : Who) (c : Bool) (to : ℕ) → is_shown_between s u to ≡ true → ((same_who u w && c) && is_shown_between s w to) ≡ (same_who u w && c)
own_shown s u w c to shown = go (same_who u w) refl
  where
    go : (b : Bool) → same_who u w ≡ b → ((b && c) && is_shown_between s w to) ≡ (b && c)
    go false e = refl
    go true e =
        let here : is_shown_between s w to ≡ true = subst (λ (x : Who). is_shown_between s x to ≡ true) (same_who_is u w e) shown in
        ap (λ (b : Bool). c && b) here ∙ and_true c

own_unshown : (s : Selection) (u w : Who) (c : Bool) (to : ℕ) → is_shown_between s u to ≡ false → ((same_who u w && c) && is_shown_between s w to) ≡ false
own_unshown s u w c to none = go (same_who u w) c refl
  where
    go : (b d : Bool) → same_who u w ≡ b → ((b && d) && is_shown_between s w to) ≡ false
    go false d e = refl
    go true false e = refl
    go true true e = subst (λ (x : Who). is_shown_between s x to ≡ false) (same_who_is u w e) none

-- a list with an entry at its end, where it is its own and is shown
abbrev with_one : Selection → SentEntry → List EntrySent → Who → Kind → List EntrySent
with_one s e list w k = if (same_who e.who w && same_kind e.kind k) && is_shown_between s w e.to then put_whole e.to e.read list else list

abbrev with_one_if : Selection → Option SentEntry → List EntrySent → Who → Kind → List EntrySent
with_one_if s None list w k = list
with_one_if s (Some e) list w k = with_one s e list w k

one_more : (s : Selection) (time : Option ℕ) (o : Option SentEntry) (lists : Who → Kind → List EntrySent) (w : Who) (k : Kind) → AsksForAll s
    → with_entry_sent (if_shown s time o) lists w k ≡ with_one_if s o (lists w k) w k
one_more s time None lists w k all = refl
one_more s time (Some e) lists w k all = ap (λ (b : Bool). with_entry_sent (if b then Some e else None) lists w k) (shown_between s time e all) ∙ go (is_shown_between s e.who e.to) refl
  where
    go : (b : Bool) → is_shown_between s e.who e.to ≡ b → with_entry_sent (if b then Some e else None) lists w k ≡ with_one s e (lists w k) w k
    go true is = sym (ap (λ (b : Bool). if b then put_whole e.to e.read (lists w k) else lists w k) (own_shown s e.who w (same_kind e.kind k) e.to is))
    go false is = sym (ap (λ (b : Bool). if b then put_whole e.to e.read (lists w k) else lists w k) (own_unshown s e.who w (same_kind e.kind k) e.to is))

turned : (es : List EntrySent) (v : EntrySent) (b : Bool) → (if b then reverse es ++ v ∷ [] else reverse es) ≡ reverse (if b then v ∷ es else es)
turned es v true = sym (reverse_onto es v [])
turned es v false = refl

if_same : {X : Type 0} (b : Bool) (x : X) → x ≡ (if b then x else x)
if_same true x = refl
if_same false x = refl

-- ---- over the readings

abbrev back : Selection → List Reading → Who → Kind → List EntrySent
back s h w k = reverse (entries_shown s w (entries_overheard w k h))

ended_after : (s : Selection) (h : List Reading) (source : ℕ) (w : Who) (k : Kind) (o : Option MessageSent)
    → with_one_if s (entry_if_sent source o) (back s h w k) w k ≡ reverse (entries_shown s w (put_sent w k o (entries_overheard w k h)))
ended_after s h source w k None = refl
ended_after s h source w k (Some m) = go (decoding m.bytes) (tolerant m.bytes)
  where
    es : List EntrySent
    es = entries_overheard w k h

    v_of : Shown → EntrySent
    v_of v = record { to = m.to; shown = v }

    one : (b : Bool) (v : Shown) → (if b && is_shown_between s w m.to then reverse (entries_shown s w es) ++ v_of v ∷ [] else reverse (entries_shown s w es))
        ≡ reverse (entries_shown s w (if b then v_of v ∷ es else es))
    one true v = turned (entries_shown s w es) (v_of v) (is_shown_between s w m.to)
    one false v = refl

    kept : (b : Bool) (x : List EntrySent) → (if b then x else x) ≡ x
    kept true x = refl
    kept false x = refl

    go : (v : Option Shown) (t : Option Tolerant) → with_one_if s (entry_read source m.to (record { who = m.who; kind = m.kind }) (whole_or_part v t)) (back s h w k) w k
        ≡ reverse (entries_shown s w (if same_who m.who w && same_kind m.kind k then put_shown m.to v es else es))
    go None None = ap (λ (l : List EntrySent). reverse (entries_shown s w l)) (if_same (same_who m.who w && same_kind m.kind k) es)
    go None (Some t) =
        kept ((same_who m.who w && same_kind m.kind k) && is_shown_between s w m.to) (reverse (entries_shown s w es))
        ∙ ap (λ (l : List EntrySent). reverse (entries_shown s w l)) (if_same (same_who m.who w && same_kind m.kind k) es)
    go (Some v) t = one (same_who m.who w && same_kind m.kind k) v

group_after : (s : Selection) (h : List Reading) (w : Who) (k : Kind) (g : Group)
    → with_one_if s (group_sent g h) (back s h w k) w k ≡ reverse (entries_shown s w (put_sent w k (sent_by g h) (entries_overheard w k h)))
group_after s h w k (Diagnostic l a bytes) = ended_after s h a w k (sent_by (Diagnostic l a bytes) h)
group_after s h w k (DataTransfer a d bytes) = ended_after s h a w k (sent_by (DataTransfer a d bytes) h)
group_after s h w k (AddressClaimed a m) = refl
group_after s h w k (CannotClaim m) = refl
group_after s h w k (Acknowledgment c q p d a) = refl
group_after s h w k (ConnectionManagement a d c) = refl
group_after s h w k (Request p d a) = refl
group_after s h w k Other = refl

after : (s : Selection) (x : Reading) (h : List Reading) (w : Who) (k : Kind) → with_one_if s (entry_sent x h) (back s h w k) w k ≡ back s (x ∷ h) w k
after s Empty h w k = refl
after s (Gap m) h w k = refl
after s (Frame f) h w k = group_after s h w k (group_of f)

-- ---- what was read whole

-- an entry that was read whole stands behind the others
whole_behind : (es : List ShownEntry) (to : ℕ) (v : Shown) → read_whole (es ++ record { to = to; shown = v; trouble = None } ∷ []) ≡ read_whole es ++ record { to = to; shown = v } ∷ []
whole_behind [] to v = refl
whole_behind (e ∷ es) to v = ap (put_if_whole e.to e.shown e.trouble) (whole_behind es to v) ∙ go e.trouble
  where
    go : (t : Option Trouble) → put_if_whole e.to e.shown t (read_whole es ++ record { to = to; shown = v } ∷ []) ≡ put_if_whole e.to e.shown t (read_whole es) ++ record { to = to; shown = v } ∷ []
    go None = refl
    go (Some t) = refl

-- and one that was read in part is none of them
part_behind : (es : List ShownEntry) (to : ℕ) (v : Shown) (t : Trouble) → read_whole (es ++ record { to = to; shown = v; trouble = Some t } ∷ []) ≡ read_whole es
part_behind [] to v t = refl
part_behind (e ∷ es) to v t = ap (put_if_whole e.to e.shown e.trouble) (part_behind es to v t)

read_behind : (method : Option ConversionMethod) (es : List ShownEntry) (to : ℕ) (r : MessageRead) → read_whole (es ++ shown_entry method to r ∷ []) ≡ put_whole to r (read_whole es)
read_behind method es to (Whole v) = whole_behind es to v
read_behind method es to (InPart t) = part_behind es to (shown_by_method method t) (trouble_of method t)

-- lists with one more entry
whole_more : (methods : List (Option UnitMethod)) (o : Option SentEntry) (lists : Who → Kind → List ShownEntry) (w : Who) (k : Kind)
    → read_whole (with_entry_shown methods o lists w k) ≡ with_entry_sent o (λ u l. read_whole (lists u l)) w k
whole_more methods None lists w k = refl
whole_more methods (Some e) lists w k = go (same_who e.who w && same_kind e.kind k)
  where
    go : (b : Bool) → read_whole (if b then lists w k ++ entry_by_method methods e ∷ [] else lists w k) ≡ (if b then put_whole e.to e.read (read_whole (lists w k)) else read_whole (lists w k))
    go true = read_behind (method_of methods e.who) (lists w k) e.to e.read
    go false = refl

pub shown_as_overheard : (s : Selection) → AsksForAll s → (h : List Moment) (w : Who) (k : Kind) → read_whole (lists_shown s h w k) ≡ overheard_shown s h w k
shown_as_overheard s all [] w k = refl
shown_as_overheard s all (m ∷ older) w k =
    whole_more s.methods (if_shown s m.time (entry_sent m.reading (readings_in older))) (lists_shown s older) w k
    ∙ (one_more s m.time (entry_sent m.reading (readings_in older)) (λ u l. read_whole (lists_shown s older u l)) w k all
    ∙ (ap (λ (l : List EntrySent). with_one_if s (entry_sent m.reading (readings_in older)) l w k) (shown_as_overheard s all older w k)
    ∙ after s m.reading (readings_in older) w k))
