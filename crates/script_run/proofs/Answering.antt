-- Lines that were answered, one after another.
use Rattle.std.proofs.Common.{◌≡◌, ℕ, List, [], ◌∷◌, ◌++◌, Option, Some, None, Ok, Err, IfSome, IsSome, IsOk, IsErr, OnOk, MatchOption, Result, Bool, is_some, refl, sym, ap, subst, inl, inr, option_map, true≢false}
use Rattle.journal.specs.Journal.{GarageValue}
use Rattle.script_answer.specs.declared.answer.LineAnswer.{LineAnswer}
use Rattle.script_answer.specs.declared.refusal.Refusal.{Refusal}
use Rattle.script_line.specs.Grammar.{line_spelled}
use Rattle.script_line.specs.Line.{IsSilent}
use Rattle.script_line.specs.declared.command.ScriptLine.{ScriptLine}
use Rattle.script_run.specs.Lines.{Answered, BenchDoes, LineDoes, LineTold, Silent, StandDoes, unit_joined_by}
use Rattle.script_run.specs.Moves.{MovesByJoining}
use Rattle.script_run.specs.Sinks.{Closes, IsToldSo, TakesAll, TakesOneLine, TakesScript, Taking}

pub takes_none : {S : Type 0} (by : Taking S) (s : Option GarageValue) (x : S) → TakesAll by [] s s x x
unfolding TakesAll
takes_none by s x = (refl, refl)

-- one line more
pub takes_more : {S : Type 0} (by : Taking S) (ls : List (List ℕ)) (l : List ℕ) (s t u : Option GarageValue) (told : LineTold) (x y z : S)
    → TakesAll by ls s t x y → TakesOneLine by l t told u y z → TakesAll by (ls ++ l ∷ []) s u x z
unfolding TakesAll
takes_more by [] l s t u told x y z h one =
    (told, u, z, subst (λ a. TakesOneLine by l s told u a z) h.1 (subst (λ a. TakesOneLine by l a told u y z) h.0 one), (refl, refl))
takes_more by (k ∷ ls) l s t u told x y z h one = (h.0, h.1, h.2, h.3, takes_more by ls l h.1 t u told h.2 y z h.4 one)

-- a query
pub if_answered : (o : Option (Result LineAnswer Refusal)) (r : Result LineAnswer Refusal) (g g' : GarageValue) → IfSome o (λ a. r ≡ a) → (IsSome o → g' ≡ g)
    → IfSome (option_map Answered o) (λ t. (Answered r ≡ t) × (g' ≡ g))
if_answered None r g g' q same = tt
if_answered (Some a) r g g' q same = (ap Answered q, same refl)

-- an answer that was told and a line that ended well
pub on_both : {A B C D X Y : Type 0} (a : Result A B) (r : Result C D) → (IsErr a → IsErr r) → IsOk r → OnOk a X → (X → Y) → Y
on_both (Ok x) r f ok h k = k h
on_both (Err e) (Ok y) f ok h k = absurd (true≢false (sym (f refl)))
on_both (Err e) (Err d) f ok h k = absurd (true≢false (sym ok))

pub of_ok : {X Y Z : Type 0} (r : Result X Y) → IsOk r → OnOk r Z → Z
of_ok (Ok x) ok h = h
of_ok (Err e) ok h = absurd (true≢false (sym ok))

-- a silent line more
pub silent_line : {S : Type 0} (by : Taking S) (lines : List (List ℕ)) (line : List ℕ) (s : Option GarageValue) (x y z : S)
    → IsSilent line → by.begins y z → TakesAll by lines None s x y → TakesAll by (lines ++ line ∷ []) None s x z
silent_line by lines line s x y z silent begun h = takes_more by lines line None s s Silent x y z h (inl (silent, refl, refl, begun))

-- an answered one
pub line_more : {S : Type 0} (by : Taking S) (lines : List (List ℕ)) (line : List ℕ) (read : Option ScriptLine) (s t : Option GarageValue) (had : Bool) (x y b e z : S)
    → ¬ IsSilent line → read ≡ line_spelled line → had ≡ is_some s → by.begins y b → by.ends line had e z
    → TakesAll by lines None s x y → IsToldSo by.takes (λ told. StandDoes read s told t) b e → TakesAll by (lines ++ line ∷ []) None t x z
line_more by lines line read s t had x y b e z spoken is there begun ended h w =
    takes_more by lines line None s t w.0 x y z h
    (inr (spoken, subst (λ r. StandDoes r s w.0 t) is w.1, (b, e, begun, w.2, subst (λ i. by.ends line i e z) there ended)))

pub has_one : {X Y : Type 0} (f : X → Y) (o : Option X) → is_some o ≡ is_some (option_map f o)
has_one f None = refl
has_one f (Some x) = refl

-- a command at a bench, and a unit that joins it
bench_line : (read : Option ScriptLine) (g g' : GarageValue) (told : LineTold) → unit_joined_by read ≡ None → BenchDoes read g told g' → LineDoes read g told g'
bench_line read g g' told none h =
    subst (λ o. MatchOption o (BenchDoes read g told g') (λ j. (r : Result LineAnswer Refusal) × (told ≡ Answered r) × MovesByJoining j.0 j.1 r g g')) (sym none) h

join_line : (read : Option ScriptLine) (name address : ℕ) (r : Result LineAnswer Refusal) (g g' : GarageValue) → unit_joined_by read ≡ Some (name, address) → MovesByJoining name address r g g' → LineDoes read g (Answered r) g'
join_line read name address r g g' some h =
    subst (λ o. MatchOption o (BenchDoes read g (Answered r) g') (λ j. (x : Result LineAnswer Refusal) × (Answered r ≡ Answered x) × MovesByJoining j.0 j.1 x g g')) (sym some) (r, refl, h)

-- what one way to answer a line came to, where all ways meet
pub came_to : {S B X Y : Type 0} (takes : S → LineTold → S → Type 0) (garage : B → GarageValue) (read : Option ScriptLine) (x x' y y' : Option B) (begun after m : S) (a b : Result X Y)
    → m ≡ after → y ≡ y' → a ≡ b → x ≡ x' → OnOk b (IsToldSo takes (λ told. StandDoes read (option_map garage x') told (option_map garage y')) begun after)
    → OnOk a (IsToldSo takes (λ told. StandDoes read (option_map garage x) told (option_map garage y)) begun m)
came_to takes garage read x x' y y' begun after m a b em ey ea ex h =
    subst (λ k. OnOk a (IsToldSo takes (λ told. StandDoes read (option_map garage x) told (option_map garage y)) begun k)) (sym em)
    (subst (λ r. OnOk r (IsToldSo takes (λ told. StandDoes read (option_map garage x) told (option_map garage y)) begun after)) (sym ea)
    (subst (λ o. OnOk b (IsToldSo takes (λ told. StandDoes read (option_map garage o) told (option_map garage y)) begun after)) (sym ex)
    (subst (λ o. OnOk b (IsToldSo takes (λ told. StandDoes read (option_map garage x') told (option_map garage o)) begun after)) (sym ey) h)))

pub wrote_line : {S X Y : Type 0} (takes : S → LineTold → S → Type 0) (r : Result X Y) (old new : S) (read : Option ScriptLine) (name address : ℕ) (a : Result LineAnswer Refusal) (g g' : GarageValue) → unit_joined_by read ≡ Some (name, address)
    → MovesByJoining name address a g g' → OnOk r (takes old (Answered a) new) → OnOk r (IsToldSo takes (λ t. LineDoes read g t g') old new)
wrote_line takes (Ok x) old new read name address a g g' some moved h = (Answered a, join_line read name address a g g' some moved, h)
wrote_line takes (Err e) old new read name address a g g' some moved h = tt

pub wrote_bench : {S X Y : Type 0} (takes : S → LineTold → S → Type 0) (r : Result X Y) (old new : S) (read : Option ScriptLine) (g g' : GarageValue) → unit_joined_by read ≡ None
    → OnOk r (IsToldSo takes (λ t. BenchDoes read g t g') old new) → OnOk r (IsToldSo takes (λ t. LineDoes read g t g') old new)
wrote_bench takes (Ok x) old new read g g' none h = (h.0, bench_line read g g' h.0 none h.1, h.2)
wrote_bench takes (Err e) old new read g g' none h = tt

-- at the end of the lines
pub taken_all : {S X Y : Type 0} (by : Taking S) (closes : GarageValue → S → S → Type 0) (r : Result X Y) (done lines : List (List ℕ)) (s t : Option GarageValue) (x m n y : S) → done ≡ lines → t ≡ s → n ≡ m
    → TakesAll by done None s x m → OnOk r (Closes closes t n y) → OnOk r (TakesScript by closes lines x y)
taken_all by closes (Ok a) done lines s t x m n y all kept same h end =
    (s, m, subst (λ ls. TakesAll by ls None s x m) all h, subst (λ k. Closes closes s k y) same (subst (λ o. Closes closes o n y) kept end))
taken_all by closes (Err e) done lines s t x m n y all kept same h end = tt

pub on_err : {X Y : Type 0} (Z : Type 0) (r : Result X Y) → IsErr r → OnOk r Z
on_err Z (Ok x) h = absurd (true≢false (sym h))
on_err Z (Err e) h = tt
