-- What is said of lists of stobjs in L, proved.
use Rattle.std.proofs.Common.{◌≡◌, ℕ, List, [], ◌∷◌, Option, None, refl, sym, subst}
use Rattle.model_symbols.specs.Symbols.{QualifiedName}
use Rattle.model_lists.specs.Lists.{StobjList}
use Rattle.model_terms.specs.Worlds.{World, AbstractDescriptor}
use Rattle.model_eval.specs.Outcomes.{Shown, Plain, StobjNamed, Stobjs}
use Rattle.model_eval.specs.Variables.{list_of}
use Rattle.model_logic.specs.Logic.{Thing}
use Rattle.model_follows.specs.Follows.{thing_of_list, thing_of, things_of}
pub use Rattle.model_follows.specs.Held.{Ground, Held, held, all_held, ground_book, IsViewed, KinBy, Kin, AreKin, itself, AreHeld}

-- ---- stobjs that are seen as they are

pub kin_plain : (w : World) (g : Ground) (symbols : List QualifiedName) (x : ℕ) (l : StobjList ℕ) → g.view x ≡ None → Kin w g symbols x l (thing_of_list symbols l)
kin_plain w g symbols x l e = record { kin = subst (λ (v : Option AbstractDescriptor). KinBy (ground_book w g) v (thing_of_list symbols l) (thing_of_list symbols l)) (sym e) refl }

pub plain_kin : (w : World) (g : Ground) (symbols : List QualifiedName) (x : ℕ) (l : StobjList ℕ) (a : Thing) → g.view x ≡ None → Kin w g symbols x l a → a ≡ thing_of_list symbols l
plain_kin w g symbols x l a e k = subst (λ (v : Option AbstractDescriptor). KinBy (ground_book w g) v (thing_of_list symbols l) a) e k.kin

-- stobjs that are seen alike
pub kin_alike : (w : World) (g : Ground) (symbols : List QualifiedName) (x y : ℕ) (l : StobjList ℕ) (a : Thing) → g.view x ≡ g.view y → Kin w g symbols x l a → Kin w g symbols y l a
kin_alike w g symbols x y l a e k = record { kin = subst (λ (v : Option AbstractDescriptor). KinBy (ground_book w g) v (thing_of_list symbols l) a) e k.kin }

-- the same of other symbols and another list, which C has as the same stobj
pub kin_same : (w : World) (g : Ground) (old new : List QualifiedName) (x : ℕ) (l m : StobjList ℕ) (a b : Thing) → thing_of_list new m ≡ thing_of_list old l → b ≡ a → Kin w g old x l a → Kin w g new x m b
kin_same w g old new x l m a b e f k =
    record { kin = subst (λ (c : Thing). KinBy (ground_book w g) (g.view x) (thing_of_list new m) c) (sym f) (subst (λ (c : Thing). KinBy (ground_book w g) (g.view x) c a) (sym e) k.kin) }

-- ---- lists of C by name

abbrev pub by_names : List QualifiedName → Stobjs ℕ → Held
by_names symbols stobjs = λ x. thing_of_list symbols (list_of stobjs x)

pub held_named : (symbols : List QualifiedName) (stobjs : Stobjs ℕ) (v : Shown ℕ) → held symbols (by_names symbols stobjs) v ≡ thing_of symbols stobjs v
held_named symbols stobjs (Plain o) = refl
held_named symbols stobjs (StobjNamed x) = refl

pub all_named : (symbols : List QualifiedName) (stobjs : Stobjs ℕ) (vs : List (Shown ℕ)) → all_held symbols (by_names symbols stobjs) vs ≡ things_of symbols stobjs vs
all_named symbols stobjs [] = refl
all_named symbols stobjs (v ∷ vs) = rw (held_named symbols stobjs v, all_named symbols stobjs vs) refl
