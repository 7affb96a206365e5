-- Keepers that go with a world.
use Rattle.std.specs.Prelude.{ℕ, ◌≤◌, List, [], ◌∷◌, Option, None}
use Rattle.std.proofs.Common.{arith}
use Rattle.model_eval.specs.Outcomes.{Stobjs}
use Rattle.model_known.specs.Known.{KnowsStobjs, KnowsLeft}
use Rattle.acl_heap.specs.Objects.{Objects}
use Rattle.acl_worlds.specs.Contents.{Content}
use Rattle.acl_list_scope.specs.declared.scoped.ScopedLists.{ScopedLists}
use Rattle.acl_list_scope.specs.Kept.{Keeps}
use Rattle.acl_list_keeper.specs.declared.ready.Ready.{Ready}
use Rattle.acl_list_keeper.specs.Sound.{ReadyFits, WorldFits, IsSound}

-- what is kept is another, and nothing is ready
pub sound_by : (s t : ScopedLists) (r : Option Ready) (h : Objects) (w : Content) (n : ℕ) (k : Stobjs ℕ) (ls : List (Stobjs ℕ)) → IsSound s r h w n → Keeps t k ls → KnowsStobjs n k → KnowsLeft n ls → IsSound t None h w n
sound_by s t r h w n k ls i keeps known lefts = record { kept = k; lefts = ls; keeps = keeps; known = known; known_lefts = lefts; readies = tt; world = i.world }

pub sound_unready : (s : ScopedLists) (r : Option Ready) (h : Objects) (w : Content) (n : ℕ) → IsSound s r h w n → IsSound s None h w n
sound_unready s r h w n i = sound_by s s r h w n i.kept i.lefts i i.keeps i.known i.known_lefts

pub sound_ready : (s : ScopedLists) (r : Option Ready) (h : Objects) (w : Content) (n : ℕ) → IsSound s None h w n → ReadyFits s.lists h n r → IsSound s r h w n
sound_ready s r h w n i f = record { kept = i.kept; lefts = i.lefts; keeps = i.keeps; known = i.known; known_lefts = i.known_lefts; readies = f; world = i.world }

-- all is kept
pub sound_kept : (s t : ScopedLists) (r : Option Ready) (h : Objects) (w : Content) (n : ℕ) → ((k : Stobjs ℕ) (ls : List (Stobjs ℕ)) → Keeps s k ls → Keeps t k ls) → IsSound s r h w n → IsSound t None h w n
sound_kept s t r h w n keeps i = sound_by s t r h w n i.kept i.lefts i (keeps i.kept i.lefts i.keeps) i.known i.known_lefts

-- what was left behind last is taken out
pub sound_taken : (s t : ScopedLists) (r : Option Ready) (h : Objects) (w : Content) (n : ℕ) (after : Stobjs ℕ → Stobjs ℕ → Stobjs ℕ)
    → ((k l : Stobjs ℕ) (ls : List (Stobjs ℕ)) → Keeps s k (l ∷ ls) → Keeps t (after k l) ls) → ((k : Stobjs ℕ) → Keeps s k [] → Keeps t k [])
    → ((k l : Stobjs ℕ) → KnowsStobjs n k → KnowsStobjs n l → KnowsStobjs n (after k l)) → IsSound s r h w n → IsSound t None h w n
sound_taken s t r h w n after keeps none knows i = taken i.lefts i.keeps i.known_lefts where
  taken : (ls : List (Stobjs ℕ)) → Keeps s i.kept ls → KnowsLeft n ls → IsSound t None h w n
  taken [] k b = sound_by s t r h w n i.kept [] i (none i.kept k) i.known tt
  taken (l ∷ ls) k b = sound_by s t r h w n (after i.kept l) ls i (keeps i.kept l ls k) (knows i.kept l i.known b.0) b.1

pub same_least : (n : ℕ) → n ≤ n
same_least n = omega arith

pub sound_new : (s : ScopedLists) (h : Objects) (w : Content) (n : ℕ) → Keeps s [] [] → WorldFits h w n → IsSound s None h w n
sound_new s h w n k f = record { kept = []; lefts = []; keeps = k; known = tt; known_lefts = tt; readies = tt; world = f }
