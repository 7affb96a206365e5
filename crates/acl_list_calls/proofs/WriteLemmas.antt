-- Fields that are written.
use Rattle.std.specs.Prelude.{◌≡◌, ℕ, ◌<◌, ◌≤◌, ◌^◌, Bool, true, false, ◌&&◌, nat_le, List, length, ℤ, pos, negsuc, Option, Some, None, option_map, is_some, refl}
use Rattle.std.proofs.Common.{sym, ap, ◌∙◌, subst, arith}
use Rattle.std.proofs.lemmas.Bool.Decides.{nat_tests}
use Rattle.acl_base.specs.declared.SymId.{SymId}
use Rattle.acl_base.specs.declared.Word.{Word}
use Rattle.acl_base.specs.declared.layout.Test.{Test}
use Rattle.model_objects.specs.Object.{Object, Integer, Symbol, Text, Pair}
use Rattle.model_prims.specs.Kinds.{by_number}
use Rattle.model_prims.specs.Numbers.{natural_of}
use Rattle.model_prims.specs.Applied.{argument}
use Rattle.model_lists.specs.Lists.{StobjList, Value, size, item, with_item, resized}
use Rattle.model_lists.specs.Types.{meets}
use Rattle.model_lists.specs.Effects.{Effect, Refuses, Writes, changed, lengthened, when, is_index, is_up_to, most_elements}
use Rattle.model_eval.specs.StobjLayouts.{field_type}
use Rattle.model_eval.specs.Lending.{with_child_in}
use Rattle.model_expansion.specs.TypeTerms.{accepted_type}
use Rattle.acl_heap.specs.Objects.{Objects, object_of, reach, Lies}
use Rattle.acl_terms.specs.declared.stobj.Shape.{Shape}
use Rattle.acl_terms.specs.declared.stobj.Shape.TheVariants as shape
use Rattle.acl_terms.specs.Definitions.{seen_shape, shape_reach}
use Rattle.acl_lists.specs.declared.cell.ListId.{ListId}
use Rattle.acl_lists.specs.declared.cell.Cell.{Cell}
use Rattle.acl_lists.specs.Tables.{list_at, Grown}
use Rattle.acl_lists.specs.Pairs.{Within}
use Rattle.acl_lists.proofs.TableLemmas.{list_later, grown_then}
use Rattle.acl_new_lists.specs.Begun.{itself}
use Rattle.acl_layouts.specs.Typed.{IsTyped}
use Rattle.acl_list_parts.specs.Parts.{list_given, IndexLies}
use Rattle.acl_list_parts.proofs.ItemLemmas.{given_later}
use Rattle.acl_list_calls.specs.declared.done.Done.{Done}
use Rattle.acl_list_calls.specs.declared.done.Done.TheVariants as done
use Rattle.acl_list_calls.specs.Results.{Does}
use Rattle.acl_list_calls.specs.Plain.{plain_layout}
use Rattle.acl_list_calls.proofs.ReadLemmas.{refused}

pub one_within : (cs : List Cell) (n : ListId) → n.0 < length cs → Within cs (Some n)
one_within cs n l = l

pub one_lies : (h : Objects) (w : Word) → Lies h w → IndexLies h (Some w)
one_lies h w l = l

-- ---- scalars

pub scalar_refused : (h g : Objects) (cs : List Cell) (spec new o : Object ℕ) (b : Bool) (l : StobjList ℕ) (w : Word) → object_of g w ≡ o → b ≡ meets by_number (field_type itself spec) (object_of g w) → b ≡ false
    → Does h cs (when by_number (meets by_number (field_type itself spec) o) (Writes l)) done.Refuses
scalar_refused h g cs spec new o b l w e m f =
    let q : meets by_number (field_type itself spec) o ≡ false = sym (ap (meets by_number (field_type itself spec)) e) ∙ (sym m ∙ f) in
    refused h cs _ (sym (ap (λ t. when by_number t (Writes l)) q))

pub scalar_put : (h g : Objects) (old mid new : List Cell) (spec o : Object ℕ) (b : Bool) (list made : Option ListId) (value : ListId) (f : ℕ) (w : Word) → object_of g w ≡ o
    → b ≡ meets by_number (field_type itself spec) (object_of g w) → b ≡ true → list_at mid value ≡ Value (object_of g w) → Grown old mid → Within old list → Within new made
    → list_given new made ≡ with_item f (list_given mid (Some value)) (list_given mid list)
    → Does h new (when by_number (meets by_number (field_type itself spec) o) (Writes (with_item f (Value o) (list_given old list)))) (done.Writes made)
scalar_put h g old mid new spec o b list made value f w e m t v grown in-old in-new i =
    let q : meets by_number (field_type itself spec) o ≡ true = sym (ap (meets by_number (field_type itself spec)) e) ∙ (sym m ∙ t) in
    let l : list_given new made ≡ with_item f (Value o) (list_given old list) = i ∙ (ap (λ k. with_item f k (list_given mid list)) (v ∙ ap Value e) ∙ ap (with_item f (Value o)) (given_later old mid list grown in-old)) in
    record { lies = in-new; is = ap Writes l ∙ sym (ap (λ k. when by_number k (Writes (with_item f (Value o) (list_given old list)))) q) }

-- ---- elements

both_true : (a b : Bool) → (a && b) ≡ true → (a ≡ true) × (b ≡ true)
both_true true b e = (refl, e)
both_true false b e = cc

pub element_refused : (h g : Objects) (cs : List Cell) (field : StobjList ℕ) (spec i o : Object ℕ) (r b : Bool) (count : ℕ) (l : StobjList ℕ) (v w : Word) → object_of g v ≡ i → object_of g w ≡ o → count ≡ size field
    → r ≡ is_index (object_of g v) count → b ≡ meets by_number (field_type itself spec) (object_of g w) → (r && b) ≡ false
    → Does h cs (when by_number (is_index i (size field) && meets by_number (field_type itself spec) o) (Writes l)) done.Refuses
element_refused h g cs field spec i o r b count l v w e d n j m f =
    let p : is_index i (size field) ≡ r = sym (j ∙ (ap (λ x. is_index x count) e ∙ ap (is_index i) n)) in
    let q : meets by_number (field_type itself spec) o ≡ b = sym (m ∙ ap (meets by_number (field_type itself spec)) d) in
    refused h cs _ (sym (ap (λ t. when by_number (t && meets by_number (field_type itself spec) o) (Writes l)) p ∙ (ap (λ t. when by_number (r && t) (Writes l)) q ∙ ap (λ t. when by_number t (Writes l)) f)))

pub element_put : (h g : Objects) (old mid new : List Cell) (spec i o : Object ℕ) (r b : Bool) (count : ℕ) (list field made : Option ListId) (value : ListId) (f : ℕ) (v w : Word) → object_of g v ≡ i → object_of g w ≡ o
    → count ≡ size (list_given old field) → list_given old field ≡ item f (list_given old list) → r ≡ is_index (object_of g v) count → b ≡ meets by_number (field_type itself spec) (object_of g w) → (r && b) ≡ true
    → list_at mid value ≡ Value (object_of g w) → Grown old mid → Within old list → Within new made
    → list_given new made ≡ with_item f (with_child_in (option_map (object_of g) (Some v)) (list_given mid (Some value)) (item f (list_given mid list))) (list_given mid list)
    → Does h new (when by_number (is_index i (size (item f (list_given old list))) && meets by_number (field_type itself spec) o) (Writes (with_item f (with_item (natural_of i) (Value o) (item f (list_given old list))) (list_given old list)))) (done.Writes made)
element_put h g old mid new spec i o r b count list field made value f v w e d n p j m t x grown in-old in-new k =
    let reached : is_index i (size (item f (list_given old list))) ≡ r = sym (j ∙ (ap (λ y. is_index y count) e ∙ ap (is_index i) (n ∙ ap size p))) in
    let fits : meets by_number (field_type itself spec) o ≡ b = sym (m ∙ ap (meets by_number (field_type itself spec)) d) in
    let later : list_given mid list ≡ list_given old list = given_later old mid list grown in-old in
    let l : list_given new made ≡ with_item f (with_item (natural_of i) (Value o) (item f (list_given old list))) (list_given old list) =
    k
    ∙ (ap (λ y. with_item f (with_item (natural_of (object_of g v)) y (item f (list_given mid list))) (list_given mid list)) (x ∙ ap Value d)
    ∙ (ap (λ y. with_item f (with_item (natural_of y) (Value o) (item f (list_given mid list))) (list_given mid list)) e
    ∙ ap (λ y. with_item f (with_item (natural_of i) (Value o) (item f y)) y) later)) in
    record {
      lies = in-new;
      is = ap Writes l
          ∙ sym (ap (λ y. when by_number (y && meets by_number (field_type itself spec) o) (Writes (with_item f (with_item (natural_of i) (Value o) (item f (list_given old list))) (list_given old list)))) reached
          ∙ (ap (λ y. when by_number (r && y) (Writes (with_item f (with_item (natural_of i) (Value o) (item f (list_given old list))) (list_given old list)))) fits
          ∙ ap (λ y. when by_number y (Writes (with_item f (with_item (natural_of i) (Value o) (item f (list_given old list))) (list_given old list)))) t));
    }

-- ---- lengths

is_small : (o : Object ℕ) → is_up_to 16777216 o ≡ true → natural_of o ≤ 16777216
is_small (Integer (pos n)) e = below n 16777216 e where
  below : (n m : ℕ) → nat_le n m ≡ true → n ≤ m
  below n m e = grind (arith, nat_tests, e)
is_small (Integer (negsuc n)) e = cc
is_small (Symbol s) e = cc
is_small (Text bytes) e = cc
is_small (Pair a d) e = cc

pub length_fits : (g : Objects) (w : Word) (r b : Bool) → b ≡ is_up_to 16777216 (object_of g w) → (r && b) ≡ true → 2 ^ 64 ≤ natural_of (object_of g w) → ⊥
length_fits g w r b e t l = let s = is_small (object_of g w) (sym e ∙ (both_true r b t).1) in omega (arith, s, l)

pub length_refused : (h g : Objects) (cs : List Cell) (o : Object ℕ) (r b : Bool) (l : StobjList ℕ) (w : Word) → object_of g w ≡ o → b ≡ is_up_to 16777216 (object_of g w) → (r && b) ≡ false
    → Does h cs (when by_number (r && is_up_to most_elements o) (Writes l)) done.Refuses
length_refused h g cs o r b l w e m f =
    let q : is_up_to 16777216 o ≡ b = sym (m ∙ ap (is_up_to 16777216) e) in
    refused h cs _ (sym (ap (λ t. when by_number (r && t) (Writes l)) q ∙ ap (λ t. when by_number t (Writes l)) f))

pub length_put : (h g : Objects) (old first second third new : List Cell) (o start : Object ℕ) (r b : Bool) (list field made : Option ListId) (array fill put : ListId) (f count : ℕ) (w : Word) → object_of g w ≡ o
    → b ≡ is_up_to 16777216 (object_of g w) → (r && b) ≡ true → count ≡ natural_of (object_of g w) → list_given old field ≡ item f (list_given old list) → list_at first array ≡ list_given old field
    → array.0 < length first → list_at second fill ≡ Value start → list_at third put ≡ resized count (list_at second fill) (list_at second array) → Grown old first → Grown first second → Grown second third
    → Within old list → Within new made → list_given new made ≡ with_item f (list_given third (Some put)) (list_given third list)
    → Does h new (when by_number (r && is_up_to most_elements o) (Writes (with_item f (resized (natural_of o) (Value start) (item f (list_given old list))) (list_given old list)))) (done.Writes made)
length_put h g old first second third new o start r b list field made array fill put f count w e m t n p a in-first v s g1 g2 g3 in-old in-new i =
    let q : is_up_to 16777216 o ≡ b = sym (m ∙ ap (is_up_to 16777216) e) in
    let whole : list_given third list ≡ list_given old list = given_later old third list (grown_then old first third g1 (grown_then first second third g2 g3)) in-old in
    let same : list_at second array ≡ item f (list_given old list) = list_later first second array g2 in-first ∙ (a ∙ p) in
    let l : list_given new made ≡ with_item f (resized (natural_of o) (Value start) (item f (list_given old list))) (list_given old list) =
    i
    ∙ (ap (λ y. with_item f y (list_given third list)) (s ∙ (ap (λ y. resized count y (list_at second array)) v ∙ (ap (resized count (Value start)) same ∙ ap (λ y. resized y (Value start) (item f (list_given old list))) (n ∙ ap natural_of e))))
    ∙ ap (with_item f (resized (natural_of o) (Value start) (item f (list_given old list)))) whole) in
    record {
      lies = in-new;
      is = ap Writes l
          ∙ sym (ap (λ y. when by_number (r && y) (Writes (with_item f (resized (natural_of o) (Value start) (item f (list_given old list))) (list_given old list)))) q
          ∙ ap (λ y. when by_number y (Writes (with_item f (resized (natural_of o) (Value start) (item f (list_given old list))) (list_given old list)))) t);
    }

-- ---- what shapes ask for

pub scalar_reach : (h : Objects) (s : Shape) (spec start : Word) → s ≡ shape.Scalar spec start → shape_reach s ≤ length h → reach spec ≤ length h
scalar_reach h s spec start e l = let m : shape_reach (shape.Scalar spec start) ≤ length h = subst (λ t. shape_reach t ≤ length h) e l in omega (arith, m)

pub array_reach : (h : Objects) (s : Shape) (spec start : Word) (n : ℕ) (resizable : Bool) → s ≡ shape.Array spec start n resizable → shape_reach s ≤ length h → reach spec ≤ length h
array_reach h s spec start n resizable e l = let m : shape_reach (shape.Array spec start n resizable) ≤ length h = subst (λ t. shape_reach t ≤ length h) e l in omega (arith, m)

pub initial_reach : (h : Objects) (s : Shape) (spec start : Word) (n : ℕ) (resizable : Bool) → s ≡ shape.Array spec start n resizable → shape_reach s ≤ length h → reach start ≤ length h
initial_reach h s spec start n resizable e l = let m : shape_reach (shape.Array spec start n resizable) ≤ length h = subst (λ t. shape_reach t ≤ length h) e l in omega (arith, m)

pub scalar_typed : (h : Objects) (s : Shape) (spec start : Word) → s ≡ shape.Scalar spec start → IsTyped (seen_shape h s) → is_some (accepted_type (object_of h spec)) ≡ true
scalar_typed h s spec start e t = subst (λ u. IsTyped (seen_shape h u)) e t

pub array_typed : (h : Objects) (s : Shape) (spec start : Word) (n : ℕ) (resizable : Bool) → s ≡ shape.Array spec start n resizable → IsTyped (seen_shape h s) → is_some (accepted_type (object_of h spec)) ≡ true
array_typed h s spec start n resizable e t = subst (λ u. IsTyped (seen_shape h u)) e t

-- ---- by shapes

module _ (h g : Objects) (cs : List Cell) (s : Shape) (f : ℕ) (args : List (Object ℕ)) (l : StobjList ℕ) where
  pub scalar_changed : (spec start : Word) (d : Done) → s ≡ shape.Scalar spec start
      → Does h cs (when by_number (meets by_number (field_type itself (object_of g spec)) (argument by_number args 0)) (Writes (with_item f (Value (argument by_number args 0)) l))) d
      → Does h cs (changed by_number (plain_layout (seen_shape g s)) f args l) d
  unfolding changed plain_layout
  scalar_changed spec start d e j = record { lies = j.lies; is = j.is ∙ ap (λ t. changed by_number (plain_layout (seen_shape g t)) f args l) (sym e) }

  pub element_changed : (spec start : Word) (n : ℕ) (resizable : Bool) (d : Done) → s ≡ shape.Array spec start n resizable
      → Does h cs (when by_number (is_index (argument by_number args 0) (size (item f l)) && meets by_number (field_type itself (object_of g spec)) (argument by_number args 1)) (Writes (with_item f (with_item (natural_of (argument by_number args 0)) (Value (argument by_number args 1)) (item f l)) l))) d
      → Does h cs (changed by_number (plain_layout (seen_shape g s)) f args l) d
  unfolding changed plain_layout
  element_changed spec start n resizable d e j = record { lies = j.lies; is = j.is ∙ ap (λ t. changed by_number (plain_layout (seen_shape g t)) f args l) (sym e) }

  pub hash_changed : (test : Test) → s ≡ shape.Hash test → Does h cs (changed by_number (plain_layout (seen_shape g s)) f args l) done.Refuses
  unfolding changed plain_layout
  hash_changed test e = refused h cs _ (ap (λ t. changed by_number (plain_layout (seen_shape g t)) f args l) (sym e))

  pub child_changed : (x : SymId) → s ≡ shape.Child x → Does h cs (changed by_number (plain_layout (seen_shape g s)) f args l) done.Refuses
  unfolding changed plain_layout
  child_changed x e = refused h cs _ (ap (λ t. changed by_number (plain_layout (seen_shape g t)) f args l) (sym e))

  pub children_changed : (x : SymId) (n : ℕ) → s ≡ shape.Children x n → Does h cs (changed by_number (plain_layout (seen_shape g s)) f args l) done.Refuses
  unfolding changed plain_layout
  children_changed x n e = refused h cs _ (ap (λ t. changed by_number (plain_layout (seen_shape g t)) f args l) (sym e))

  pub array_lengthened : (spec start : Word) (n : ℕ) (resizable : Bool) (d : Done) → s ≡ shape.Array spec start n resizable
      → Does h cs (when by_number (resizable && is_up_to most_elements (argument by_number args 0)) (Writes (with_item f (resized (natural_of (argument by_number args 0)) (Value (object_of g start)) (item f l)) l))) d
      → Does h cs (lengthened by_number (plain_layout (seen_shape g s)) f args l) d
  unfolding lengthened plain_layout
  array_lengthened spec start n resizable d e j = record { lies = j.lies; is = j.is ∙ ap (λ t. lengthened by_number (plain_layout (seen_shape g t)) f args l) (sym e) }

  pub scalar_lengthened : (spec start : Word) → s ≡ shape.Scalar spec start → Does h cs (lengthened by_number (plain_layout (seen_shape g s)) f args l) done.Refuses
  unfolding lengthened plain_layout
  scalar_lengthened spec start e = refused h cs _ (ap (λ t. lengthened by_number (plain_layout (seen_shape g t)) f args l) (sym e))

  pub hash_lengthened : (test : Test) → s ≡ shape.Hash test → Does h cs (lengthened by_number (plain_layout (seen_shape g s)) f args l) done.Refuses
  unfolding lengthened plain_layout
  hash_lengthened test e = refused h cs _ (ap (λ t. lengthened by_number (plain_layout (seen_shape g t)) f args l) (sym e))

  pub child_lengthened : (x : SymId) → s ≡ shape.Child x → Does h cs (lengthened by_number (plain_layout (seen_shape g s)) f args l) done.Refuses
  unfolding lengthened plain_layout
  child_lengthened x e = refused h cs _ (ap (λ t. lengthened by_number (plain_layout (seen_shape g t)) f args l) (sym e))

  pub children_lengthened : (x : SymId) (n : ℕ) → s ≡ shape.Children x n → Does h cs (lengthened by_number (plain_layout (seen_shape g s)) f args l) done.Refuses
  unfolding lengthened plain_layout
  children_lengthened x n e = refused h cs _ (ap (λ t. lengthened by_number (plain_layout (seen_shape g t)) f args l) (sym e))
