-- The parts of forms.
use Rattle.std.specs.Prelude.{◌≡◌, ℕ, length, List, [], ◌∷◌, ◌++◌, Option, Some, None, refl}
use Rattle.std.specs.Option.{option_map}
use Rattle.std.proofs.Common.{sym, ap, ◌∙◌, subst}
use Rattle.std.proofs.lemmas.List.{append_assoc}
use Rattle.std.proofs.lemmas.List.{map_push}
use Rattle.model_objects.specs.Object.{Object, Pair}
use Rattle.model_objects.specs.Named.{Knows}
use Rattle.model_symbols.specs.Symbols.{Package, Table, package_number, package_at, form_of}
use Rattle.model_text.specs.Token.{Form}
use Rattle.model_output_so_far.specs.Commands.{elements}
use Rattle.acl_base.specs.declared.Word.{Word}
use Rattle.acl_heap.specs.Objects.{Objects, object_of, Lies}
use Rattle.acl_forms.specs.Forms.{form_at, forms_at, IsWhole, AreWhole}
use Rattle.model_symbols.proofs.NameLemmas.{package-Some, package_at-is}

-- the package whose number that of a name is has this name
pub home_called : (packages : List Package) (home : List ℕ) (n : ℕ) → package_number packages home ≡ Some n → (package_at packages n).name ≡ home
home_called packages home n e = let p = package-Some packages home n e in ap (λ (q : Package). q.name) (package_at-is packages n p.0 p.1) ∙ p.2

-- what was found, before what is left, where that is a list
abbrev pub behind : {A : Type 0} → List A → Option (List A) → Option (List A)
behind done left = option_map (λ rest. done ++ rest) left

pub behind_nothing : {A : Type 0} (left : Option (List A)) → behind [] left ≡ left
behind_nothing None = refl
behind_nothing (Some xs) = refl

pub behind_one : {A : Type 0} (done : List A) (x : A) (left : Option (List A)) → behind (done ++ x ∷ []) left ≡ behind done (option_map (λ rest. x ∷ rest) left)
behind_one done x None = refl
behind_one done x (Some xs) = ap Some (append_assoc done (x ∷ []) xs)

module _ (t : Table) (h : Objects) where
  -- the parts of a pair are whole where it is
  pub parts_whole : (w a d : Word) → object_of h w ≡ Pair (object_of h a) (object_of h d) → Lies h a → Lies h d → IsWhole t h w → IsWhole t h a × IsWhole t h d
  parts_whole w a d e p q i =
      let k : Knows (length t.symbols) (Pair (object_of h a) (object_of h d)) = subst (λ (o : Object ℕ). Knows (length t.symbols) o) e i.known in
      (record { lies = p; known = k.0 }, record { lies = q; known = k.1 })

  pub wholes_push : (ws : List Word) (w : Word) → AreWhole t h ws → IsWhole t h w → AreWhole t h (ws ++ w ∷ [])
  wholes_push [] w a i = (i, tt)
  wholes_push (v ∷ ws) w a i = (a.0, wholes_push ws w a.1 i)

  -- one more element was found
  pub one_more : (words more : List Word) (rest first next : Word) (all : Option (List Form)) → more ≡ words ++ first ∷ [] → object_of h rest ≡ Pair (object_of h first) (object_of h next)
      → behind (forms_at t h words) (elements (form_at t h rest)) ≡ all → behind (forms_at t h more) (elements (form_at t h next)) ≡ all
  one_more words more rest first next all m e i =
      ap (λ (fs : List Form). behind fs (elements (form_at t h next))) (ap (forms_at t h) m ∙ map_push (form_at t h) words first)
      ∙ (behind_one (forms_at t h words) (form_at t h first) (elements (form_at t h next))
      ∙ (sym (ap (λ (o : Object ℕ). behind (forms_at t h words) (elements (form_of t.symbols o))) e) ∙ i))
