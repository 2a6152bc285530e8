-- The stations of a garage on their posts.
use Rattle.std.proofs.Common.{ℕ, ◌≡◌, ◌≢◌, ◌<◌, List, map, length, get_or, set, sym, ap, ◌∙◌}
use Rattle.std.proofs.lemmas.List.{get_or_read, get_or-set_other, get_or-set_same, map-set, set-get_or}
use Rattle.journal.specs.State.{StationSetting}
use Rattle.garage.specs.Inside.{no_post, post_at, post_setting}
use Rattle.garage.specs.declared.garage.Post.{Post}

-- a station that changes was opened as it was
pub set_settings : (posts : List Post) (y : ℕ) (x p : Post) → y < length posts → x ≡ get_or posts y x → p.setting ≡ x.setting → map post_setting (set posts y p) ≡ map post_setting posts
set_settings posts y x p h read e =
    map-set post_setting posts y p
    ∙ (ap (λ (s : StationSetting). set (map post_setting posts) y s) (let same : post_setting p ≡ post_setting x = cc in same)
    ∙ (sym (map-set post_setting posts y x) ∙ ap (map post_setting) (ap (λ (q : Post). set posts y q) (get_or_read posts y x h read no_post) ∙ set-get_or posts y no_post)))

-- a post replaced by an equal one
pub same_post : (posts : List Post) (y : ℕ) (x p : Post) → y < length posts → x ≡ get_or posts y x → p ≡ x → set posts y p ≡ posts
same_post posts y x p h read e = ap (λ (q : Post). set posts y q) (e ∙ get_or_read posts y x h read no_post) ∙ set-get_or posts y no_post

pub own_post : (posts : List Post) (y : ℕ) (p : Post) → y < length posts → post_at (set posts y p) y ≡ p
own_post posts y p h = get_or-set_same posts y p no_post h

pub other_post : (posts : List Post) (y j : ℕ) (p : Post) → j ≢ y → post_at (set posts y p) j ≡ post_at posts j
other_post posts y j p n = get_or-set_other posts y j p no_post n
