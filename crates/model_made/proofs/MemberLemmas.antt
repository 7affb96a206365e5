-- Functions that are being admitted: their names, and the signatures that are found for them.
use Rattle.std.proofs.Common.{◌≡◌, ℕ, zero, suc, List, [], ◌∷◌, ◌++◌, map, length, Bool, true, false, Option, Some, None, refl, sym, ap, ◌∙◌, inl, inr}
use Rattle.std.specs.Prelude.{◌⊎◌, nat_eq, is_some, unwrap_or, option_map, option_and_then, if◌then◌else◌}
use Rattle.std.specs.Option.{option_or}
use Rattle.std.specs.List.{filter_map, cons_option, zip}
use Rattle.std.specs.Map.{lookup}
use Rattle.std.proofs.lemmas.Bool.{eqb-true}
use Rattle.model_terms.specs.Worlds.{World, Out, Ordinary, Signature, Definition, definition}
use Rattle.model_terms.specs.Classes.{class_in, class_of}
use Rattle.model_terms.specs.Outputs.{Known, outputs}
use Rattle.model_terms.specs.Rounds.{Member, formal_kind, formal_kinds, formal_scope, signed, learned, round, rounds, known_at_last, clique}
use Rattle.model_eval_laws.proofs.Lists.{same_number}
use Rattle.model_made.proofs.WorldLemmas.{EachDefinition, each_found, definition_both}

-- ---- members

abbrev pub IsIn : {A : Type 0} → A → List A → Type 0
IsIn a [] = ⊥
IsIn a (b ∷ bs) = (a ≡ b) ⊎ IsIn a bs

-- no two have one name
pub record AreApart (ms : List Member) : Type 0 where
  pub each : (m n : Member) → IsIn m ms → IsIn n ms → m.name ≡ n.name → m ≡ n

-- ---- signatures by name

-- a signature has the kinds of the formals of the member of this name
abbrev pub HasKinds : World → List Member → ℕ → Signature → Type 0
HasKinds w ms x s = (m : Member) → IsIn m ms → m.name ≡ x → s.ins ≡ formal_kinds w m

abbrev pub AllHaveKinds : World → List Member → Known → Type 0
AllHaveKinds w ms [] = Unit {0}
AllHaveKinds w ms (k ∷ ks) = HasKinds w ms k.0 k.1 × AllHaveKinds w ms ks

module _ (w : World) (ms : List Member) (apart : AreApart ms) where
  found_kinds : (known : Known) → AllHaveKinds w ms known → (x : ℕ) (s : Signature) → lookup (nat_eq x) known ≡ Some s → HasKinds w ms x s
  found_kinds [] h x s e = cc
  found_kinds (k ∷ ks) h x s e = go (nat_eq x k.0) refl e (found_kinds ks h.1 x s)
    where
      is : Some k.1 ≡ Some s → k.1 ≡ s
      is f = cc

      go : (b : Bool) → nat_eq x k.0 ≡ b → (if b then Some k.1 else lookup (nat_eq x) ks) ≡ Some s → (lookup (nat_eq x) ks ≡ Some s → HasKinds w ms x s) → HasKinds w ms x s
      go true f g later = λ m i j. ap (λ (t : Signature). t.ins) (sym (is g)) ∙ h.0 m i (j ∙ eqb-true x k.0 f)
      go false f g later = later g

  both_kinds : (a b : Known) → AllHaveKinds w ms a → AllHaveKinds w ms b → AllHaveKinds w ms (a ++ b)
  both_kinds [] b h k = k
  both_kinds (x ∷ a) b h k = (h.0, both_kinds a b h.1 k)

  signed_kinds : (m : Member) → IsIn m ms → (outs : List Out) → HasKinds w ms m.name (signed w m outs)
  signed_kinds m i outs n j same = ap (formal_kinds w) (apart.each m n i j (sym same))

  abbrev LearnedKinds : Option (ℕ × Signature) → Type 0
  LearnedKinds None = Unit {0}
  LearnedKinds (Some k) = HasKinds w ms k.0 k.1

  learned_kinds : (known : Known) (m : Member) → IsIn m ms → LearnedKinds (learned w known m)
  learned_kinds known m i = go (is_some (lookup (nat_eq m.name) known)) (outputs w known (formal_scope w m) m.body)
    where
      go : (b : Bool) (o : Option (List Out)) → LearnedKinds (if b then None else option_map (λ outs. (m.name, signed w m outs)) o)
      go true o = tt
      go false None = tt
      go false (Some outs) = signed_kinds m i outs

  all_learned : (known : Known) (ns : List Member) → ((m : Member) → IsIn m ns → IsIn m ms) → AllHaveKinds w ms (filter_map (learned w known) ns)
  all_learned known [] h = tt
  all_learned known (n ∷ ns) h = go (learned w known n) (learned_kinds known n (h n (inl refl))) (all_learned known ns (λ m i. h m (inr i)))
    where
      go : (v : Option (ℕ × Signature)) → LearnedKinds v → AllHaveKinds w ms (filter_map (learned w known) ns)
          → AllHaveKinds w ms (cons_option v (filter_map (learned w known) ns))
      go None k later = later
      go (Some p) k later = (k, later)

  rounds_kinds : (n : ℕ) (known : Known) → AllHaveKinds w ms known → AllHaveKinds w ms (rounds w ms n known)
  rounds_kinds zero known h = h
  rounds_kinds (suc n) known h = rounds_kinds n (round w ms known) (both_kinds known (filter_map (learned w known) ms) h (all_learned known ms (λ m i. i)))

  last_kinds : AllHaveKinds w ms (known_at_last w ms)
  last_kinds = rounds_kinds (length ms) [] tt

  -- what is found, or one ordinary output
  abbrev found_for : Member → Signature
  found_for m = unwrap_or (lookup (nat_eq m.name) (known_at_last w ms)) (signed w m (Ordinary ∷ []))

  pub clique_kinds : (m : Member) → IsIn m ms → HasKinds w ms m.name (found_for m)
  clique_kinds m i = go (lookup (nat_eq m.name) (known_at_last w ms)) refl
    where
      go : (v : Option Signature) → lookup (nat_eq m.name) (known_at_last w ms) ≡ v → HasKinds w ms m.name (unwrap_or v (signed w m (Ordinary ∷ [])))
      go None e = signed_kinds m i (Ordinary ∷ [])
      go (Some s) e = found_kinds (known_at_last w ms) last_kinds m.name s e

  zipped_kinds : (ns : List Member) → ((m : Member) → IsIn m ns → IsIn m ms) → AllHaveKinds w ms (zip (map (λ (m : Member). m.name) ns) (map (λ (m : Member). found_for m) ns))
  zipped_kinds [] h = tt
  zipped_kinds (n ∷ ns) h = (clique_kinds n (h n (inl refl)), zipped_kinds ns (λ m i. h m (inr i)))

  -- the signatures of a clique by their names
  abbrev pub by_name : Known
  by_name = zip (map (λ (m : Member). m.name) ms) (clique w ms)

  pub signature_kinds : (x : ℕ) (s : Signature) → lookup (nat_eq x) by_name ≡ Some s → HasKinds w ms x s
  signature_kinds x s e = found_kinds by_name (zipped_kinds ms (λ m i. i)) x s e

  there_in : (f : Member → Signature) (ns : List Member) (m : Member) → IsIn m ns → (s : Signature) × (lookup (nat_eq m.name) (zip (map (λ (m : Member). m.name) ns) (map f ns)) ≡ Some s)
  there_in f [] m i = absurd i
  there_in f (n ∷ ns) m i = go (nat_eq m.name n.name) refl i (there_in f ns m)
    where
      rest : Known
      rest = zip (map (λ (m : Member). m.name) ns) (map f ns)

      differs : nat_eq m.name n.name ≡ false → m ≡ n → ⊥
      differs e same = clash (sym (same_number m.name) ∙ (ap (λ (k : Member). nat_eq m.name k.name) same ∙ e))
        where
          clash : true ≡ false → ⊥
          clash h = cc

      go : (b : Bool) → nat_eq m.name n.name ≡ b → (m ≡ n) ⊎ IsIn m ns → (IsIn m ns → (s : Signature) × (lookup (nat_eq m.name) rest ≡ Some s))
          → (s : Signature) × ((if b then Some (f n) else lookup (nat_eq m.name) rest) ≡ Some s)
      go true e j later = (f n, refl)
      go false e (inl same) later = absurd (differs e same)
      go false e (inr j) later = later j

  pub signature_there : (m : Member) → IsIn m ms → (s : Signature) × (lookup (nat_eq m.name) by_name ≡ Some s)
  signature_there m i = there_in (λ n. found_for n) ms m i

-- a name that has a signature is that of a member
pub named_member : (ns : List Member) (sigs : List Signature) (x : ℕ) (s : Signature) → lookup (nat_eq x) (zip (map (λ (m : Member). m.name) ns) sigs) ≡ Some s → (m : Member) × IsIn m ns × (m.name ≡ x)
named_member [] sigs x s e = cc
named_member (n ∷ ns) [] x s e = cc
named_member (n ∷ ns) (t ∷ sigs) x s e = go (nat_eq x n.name) refl e (named_member ns sigs x s)
  where
    go : (b : Bool) → nat_eq x n.name ≡ b → (if b then Some t else lookup (nat_eq x) (zip (map (λ (m : Member). m.name) ns) sigs)) ≡ Some s
        → (lookup (nat_eq x) (zip (map (λ (m : Member). m.name) ns) sigs) ≡ Some s → (m : Member) × IsIn m ns × (m.name ≡ x)) → (m : Member) × IsIn m (n ∷ ns) × (m.name ≡ x)
    go true f g later = (n, inl refl, sym (eqb-true x n.name f))
    go false f g later = let h = later g in (h.0, inr h.1, h.2)

-- ---- kinds of formals are those of the stobjs that stand

-- definitions of which none is a stobj
pub class_more : (w new : World) → EachDefinition (λ d. class_in d ≡ None) new → (x : ℕ) → class_of (w ++ new) x ≡ class_of w x
class_more w new plain x = go (definition w x) refl
  where
    none : (v : Option Definition) → definition new x ≡ v → option_and_then class_in v ≡ None
    none None e = refl
    none (Some d) e = each_found (λ d. class_in d ≡ None) new plain x d e

    go : (c : Option Definition) → definition w x ≡ c → class_of (w ++ new) x ≡ option_and_then class_in c
    go None e = ap (option_and_then class_in) (definition_both w new x ∙ ap (λ (c : Option Definition). option_or c (definition new x)) e) ∙ none (definition new x) refl
    go (Some d) e = ap (option_and_then class_in) (definition_both w new x ∙ ap (λ (c : Option Definition). option_or c (definition new x)) e)

pub same_formals : (v w : World) → ((x : ℕ) → class_of v x ≡ class_of w x) → (m : Member) → formal_kinds v m ≡ formal_kinds w m
same_formals v w same m = each m.formals
  where
    each : (xs : List ℕ) → map (formal_kind v m.stobjs) xs ≡ map (formal_kind w m.stobjs) xs
    each [] = refl
    each (x ∷ xs) = rw (ap (λ (c : Option ℕ). is_some c) (same x), each xs) refl
