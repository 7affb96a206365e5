-- Congruence of stobjs, and instances of signatures (ACL2's manual, topic DEFSTOBJ, on :CONGRUENT-TO).
use Rattle.std.specs.Prelude.{ℕ, List, [], ◌∷◌, map, Bool, true, false, ◌&&◌, ◌||◌, not, Option, Some, None, nat_eq, is_some, unwrap_or, option_and_then, if◌then◌else◌}
use Rattle.std.specs.List.{list_any, zip}
use Rattle.std.specs.Map.{lookup}
use Rattle.model_terms.specs.Worlds.{World, Definition, Concrete, Abstract, Out, Ordinary, Stobj, Signature, definition}

-- ---- congruence

-- an abstract stobj is alone in its class
abbrev pub class_in : Definition → Option ℕ
class_in (Concrete d class) = Some class
class_in (Abstract d) = Some d.name
class_in d = None

-- the congruence class of a stobj
abbrev pub class_of : World → ℕ → Option ℕ
class_of w x = option_and_then class_in (definition w x)

abbrev pub is_stobj_name : World → ℕ → Bool
is_stobj_name w x = is_some (class_of w x)

abbrev pub same_class : Option ℕ → Option ℕ → Bool
same_class None b = false
same_class (Some a) None = false
same_class (Some a) (Some b) = nat_eq a b

-- both name stobjs, of one class
abbrev pub congruent : World → ℕ → ℕ → Bool
congruent w a b = same_class (class_of w a) (class_of w b)

-- ---- instances

-- the stobjs among some kinds
abbrev pub stobjs : List Out → List ℕ
stobjs [] = []
stobjs (Ordinary ∷ os) = stobjs os
stobjs (Stobj x ∷ os) = x ∷ stobjs os

abbrev pub has : List ℕ → ℕ → Bool
has xs x = list_any (nat_eq x) xs

-- does one stand twice?
abbrev pub repeats : List ℕ → Bool
repeats [] = false
repeats (x ∷ xs) = has xs x || repeats xs

-- as many actuals as formals, each congruent to its formal
abbrev pub all_congruent : World → List ℕ → List ℕ → Bool
all_congruent w [] [] = true
all_congruent w [] (a ∷ actuals) = false
all_congruent w (f ∷ formals) [] = false
all_congruent w (f ∷ formals) (a ∷ actuals) = congruent w f a && all_congruent w formals actuals

-- the actual of a formal
abbrev pub actual_of : List (ℕ × ℕ) → ℕ → ℕ
actual_of pairs x = unwrap_or (lookup (nat_eq x) pairs) x

abbrev pub renamed_out : List (ℕ × ℕ) → Out → Out
renamed_out pairs Ordinary = Ordinary
renamed_out pairs (Stobj x) = Stobj (actual_of pairs x)

abbrev pub renamed : List (ℕ × ℕ) → Signature → Signature
renamed pairs s = record { ins = map (renamed_out pairs) s.ins; outs = map (renamed_out pairs) s.outs }

-- a signature with each stobj formal renamed to its actual
abbrev pub instance_of : World → Signature → List ℕ → Option Signature
instance_of w s actuals =
    if all_congruent w (stobjs s.ins) actuals && not (repeats actuals) then Some (renamed (zip (stobjs s.ins) actuals) s) else None
