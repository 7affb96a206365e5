-- Lists by their elements.
use Rattle.std.specs.Prelude.{◌≡◌, ℕ, ◌+◌, ◌-◌, ◌≤◌, List, [], ◌∷◌, ◌++◌, nat_eq, Bool, true, false, refl, if◌then◌else◌}
use Rattle.std.proofs.lemmas.Bool.Decides.{nat_tests}
use Rattle.std.proofs.lemmas.List.{append_assoc}
use Rattle.std.proofs.Common.{add-one, subst, arith, ap, sym, ◌∙◌}
use Rattle.model_objects.specs.Object.{Object, Integer, Symbol, Text, Pair, weight, list_onto}
use Rattle.model_prims.specs.Kinds.{by_number}
use Rattle.model_prims.specs.Lists.{appended, union, updated, padded, car, cdr, is_member}
use Rattle.acl_base.specs.declared.Word.{Word}
use Rattle.acl_heap.specs.Objects.{Objects, object_of, Lies, Extends}
use Rattle.acl_prims.proofs.Weights.{word_weight, refused_part}
use Rattle.acl_prims.specs.Made.{AllLie, objects_of, elements_of, lacking}

pub list_onto-push : (os : List (Object ℕ)) (o end : Object ℕ) → list_onto (os ++ o ∷ []) end ≡ list_onto os (Pair o end)
list_onto-push [] o end = refl
list_onto-push (a ∷ os) o end = ap (Pair a) (list_onto-push os o end)

pub list_onto_weight : (os : List (Object ℕ)) (end : Object ℕ) → weight end ≤ weight (list_onto os end)
list_onto_weight [] end = omega arith
list_onto_weight (o ∷ os) end = omega (arith, list_onto_weight os end)

pub AllLie-later : (old new : Objects) (ws : List Word) → Extends old new → AllLie old ws → AllLie new ws
AllLie-later old new [] e h = tt
AllLie-later old new (w ∷ ws) e h = (omega (arith, h.0, e.longer), AllLie-later old new ws e h.1)

pub objects_of-later : (old new : Objects) (ws : List Word) → Extends old new → AllLie old ws → objects_of new ws ≡ objects_of old ws
objects_of-later old new [] e h = refl
objects_of-later old new (w ∷ ws) e h = rw (e.same w h.0, objects_of-later old new ws e h.1) refl

pub AllLie-push : (h : Objects) (ws : List Word) (w : Word) → AllLie h ws → Lies h w → AllLie h (ws ++ w ∷ [])
AllLie-push h [] w a l = (l, tt)
AllLie-push h (v ∷ ws) w a l = (a.0, AllLie-push h ws w a.1 l)

pub AllLie-front : (h : Objects) (ws : List Word) (w : Word) → AllLie h (ws ++ w ∷ []) → AllLie h ws × Lies h w
AllLie-front h [] w a = (tt, a.0)
AllLie-front h (v ∷ ws) w a = let rest : AllLie h ws × Lies h w = AllLie-front h ws w a.1 in ((a.0, rest.0), rest.1)

pub objects_of-push : (h : Objects) (ws : List Word) (w : Word) → objects_of h (ws ++ w ∷ []) ≡ objects_of h ws ++ object_of h w ∷ []
objects_of-push h [] w = refl
objects_of-push h (v ∷ ws) w = ap (λ os. object_of h v ∷ os) (objects_of-push h ws w)

pub appended_is : (x y : Object ℕ) → appended x y ≡ list_onto (elements_of x) y
appended_is (Integer n) y = refl
appended_is (Symbol s) y = refl
appended_is (Text bytes) y = refl
appended_is (Pair a d) y = ap (Pair a) (appended_is d y)

kept : (b : Bool) (a u end : Object ℕ) (os : List (Object ℕ)) → u ≡ list_onto os end → (if b then u else Pair a u) ≡ list_onto (if b then os else a ∷ os) end
kept true a u end os e = e
kept false a u end os e = ap (Pair a) e

pub union_is : (x y : Object ℕ) → union by_number x y ≡ list_onto (lacking x y) y
union_is (Integer n) y = refl
union_is (Symbol s) y = refl
union_is (Text bytes) y = refl
union_is (Pair a d) y = kept (is_member by_number a y) a (union by_number d y) y (lacking d y) (union_is d y)

-- an element is replaced at the beginning
pub updated-first : (o l : Object ℕ) → updated by_number 0 o l ≡ Pair o (cdr by_number l)
updated-first o (Integer n) = refl
updated-first o (Symbol s) = refl
updated-first o (Text bytes) = refl
updated-first o (Pair a d) = refl

padded-next : (n : ℕ) (o : Object ℕ) → padded by_number (n + 1) o ≡ Pair (Symbol 1) (padded by_number n o)
padded-next n o = rw (add-one n) refl

not_first : (n : ℕ) → nat_eq (n + 1) 0 ≡ false
not_first n = grind (arith, nat_tests)

back : (n : ℕ) → n + 1 - 1 ≡ n
back n = omega arith

-- or further on
pub updated-next : (n : ℕ) (o l : Object ℕ) → updated by_number (n + 1) o l ≡ Pair (car by_number l) (updated by_number n o (cdr by_number l))
updated-next n o (Integer m) = padded-next n o
updated-next n o (Symbol s) = padded-next n o
updated-next n o (Text bytes) = padded-next n o
updated-next n o (Pair a d) = rw (not_first n, back n) refl

-- one more element is taken along
pub pushed_lie : (h : Objects) (ws us : List Word) (w : Word) → us ≡ ws ++ w ∷ [] → AllLie h ws → Lies h w → AllLie h us
pushed_lie h ws us w e a l = subst (λ vs. AllLie h vs) (sym e) (AllLie-push h ws w a l)

pub pushed_objects : (h : Objects) (ws us : List Word) (w : Word) (rest all : List (Object ℕ)) → us ≡ ws ++ w ∷ [] → objects_of h ws ++ object_of h w ∷ rest ≡ all → objects_of h us ++ rest ≡ all
pushed_objects h ws us w rest all e f =
    ap (λ vs. objects_of h vs ++ rest) e
    ∙ (ap (λ os. os ++ rest) (objects_of-push h ws w)
    ∙ (append_assoc (objects_of h ws) (object_of h w ∷ []) rest ∙ f))

pub pushed_onto : (h : Objects) (ws us : List Word) (w : Word) (end all : Object ℕ) → us ≡ ws ++ w ∷ [] → list_onto (objects_of h ws) (Pair (object_of h w) end) ≡ all → list_onto (objects_of h us) end ≡ all
pushed_onto h ws us w end all e f =
    ap (λ vs. list_onto (objects_of h vs) end) e
    ∙ (ap (λ os. list_onto os end) (objects_of-push h ws w)
    ∙ (list_onto-push (objects_of h ws) (object_of h w) end ∙ f))

pub lacking_kept : (a d y : Object ℕ) → is_member by_number a y ≡ false → lacking (Pair a d) y ≡ a ∷ lacking d y
lacking_kept a d y e = rw e refl

pub lacking_left : (a d y : Object ℕ) → is_member by_number a y ≡ true → lacking (Pair a d) y ≡ lacking d y
lacking_left a d y e = rw e refl

pub ruleset fronts = (list_onto-push, list_onto_weight, AllLie-later, objects_of-later, AllLie-front, objects_of-push, word_weight, refused_part)

pub ruleset updates = (updated-first, updated-next, list_onto-push, list_onto_weight, AllLie-later, objects_of-later, AllLie-push, objects_of-push, word_weight, refused_part)
