-- Fields that are read.
use Rattle.std.specs.Prelude.{◌≡◌, ℕ, Bool, true, false, List, length, ℤ, pos, Option, Some, None, option_map, refl}
use Rattle.std.proofs.Common.{sym, ap, ◌∙◌, subst, arith}
use Rattle.acl_base.specs.declared.SymId.{SymId}
use Rattle.acl_base.specs.declared.Word.{Word}
use Rattle.acl_base.specs.declared.layout.Test.{Test}
use Rattle.model_objects.specs.Object.{Object, Integer, Symbol}
use Rattle.model_prims.specs.Kinds.{by_number}
use Rattle.model_prims.specs.Numbers.{natural_of}
use Rattle.model_prims.specs.Applied.{argument}
use Rattle.model_lists.specs.Lists.{StobjList, End, size, item, scalar_of}
use Rattle.model_lists.specs.Effects.{Effect, Refuses, reads, reads_number, accessed, when, is_index}
use Rattle.model_eval.specs.Lending.{child_in}
use Rattle.acl_heap.specs.Objects.{Objects, object_of, Lies, Denotes, Extends}
use Rattle.acl_terms.specs.declared.stobj.Shape.{Shape}
use Rattle.acl_terms.specs.declared.stobj.Shape.TheVariants as shape
use Rattle.acl_terms.specs.Definitions.{seen_shape}
use Rattle.acl_lists.specs.declared.cell.ListId.{ListId}
use Rattle.acl_lists.specs.declared.cell.Cell.{Cell}
use Rattle.acl_list_parts.specs.Parts.{list_given}
use Rattle.acl_list_calls.specs.declared.done.Done.{Done}
use Rattle.acl_list_calls.specs.declared.done.Done.TheVariants as done
use Rattle.acl_list_calls.specs.Results.{Does}
use Rattle.acl_list_calls.specs.Plain.{plain_layout}

pub extends_same : (h : Objects) → Extends h h
extends_same h = record { longer = omega arith; same = λ w l. refl }

pub nil_denoted : (h : Objects) (cs : List Cell) (n : Option ListId) (w : Word) → n ≡ None → object_of h w ≡ Symbol 1 → Lies h w → Denotes h w (scalar_of by_number (list_given cs n))
nil_denoted h cs n w e i l = record { lies = l; is = i ∙ ap (λ o. scalar_of by_number (list_given cs o)) (sym e) }

pub number_read : (h : Objects) (cs : List Cell) (n : ℕ) (z : ℤ) (w : Word) → z ≡ pos n → Denotes h w (Integer z) → Does h cs (reads_number by_number n) (done.Reads w)
number_read h cs n z w e i = record { lies = i.lies; is = ap (λ o. reads by_number o) (i.is ∙ ap (λ k. Integer k) e) }

pub refused : (h : Objects) (cs : List Cell) (e : Effect ℕ) → Refuses ≡ e → Does h cs e done.Refuses
refused h cs e i = record { lies = tt; is = i }

-- ---- elements

pub element_refused : (h : Objects) (cs : List Cell) (e : Effect ℕ) (i : Object ℕ) (count : ℕ) (field : StobjList ℕ) (w : Word) (g : Objects) → object_of g w ≡ i → count ≡ size field → is_index (object_of g w) count ≡ false
    → Does h cs (when by_number (is_index i (size field)) e) done.Refuses
element_refused h cs e i count field w g o n p =
    let q : is_index i (size field) ≡ false = sym (ap (λ x. is_index x count) o ∙ ap (is_index i) n) ∙ p in refused h cs _ (sym (ap (λ b. when by_number b e) q))

pub element_read : (h g : Objects) (cs : List Cell) (i : Object ℕ) (count : ℕ) (field found : Option ListId) (w v : Word) → object_of g w ≡ i → count ≡ size (list_given cs field) → is_index (object_of g w) count ≡ true
    → list_given cs found ≡ child_in (option_map (object_of g) (Some w)) (list_given cs field) → Denotes h v (scalar_of by_number (list_given cs found))
    → Does h cs (when by_number (is_index i (size (list_given cs field))) (reads by_number (scalar_of by_number (item (natural_of i) (list_given cs field))))) (done.Reads v)
element_read h g cs i count field found w v o n p f d =
    let q : is_index i (size (list_given cs field)) ≡ true = sym (ap (λ x. is_index x count) o ∙ ap (is_index i) n) ∙ p in
    let e : scalar_of by_number (list_given cs found) ≡ scalar_of by_number (item (natural_of i) (list_given cs field)) = ap (scalar_of by_number) (f ∙ ap (λ x. item (natural_of x) (list_given cs field)) o) in
    record {
      lies = d.lies;
      is = ap (reads by_number) (d.is ∙ e) ∙ sym (ap (λ b. when by_number b (reads by_number (scalar_of by_number (item (natural_of i) (list_given cs field))))) q);
    }

-- ---- by shapes

module _ (h g : Objects) (cs : List Cell) (s : Shape) (f : ℕ) (args : List (Object ℕ)) (l : StobjList ℕ) where
  pub scalar_accessed : (spec start v : Word) (field : Option ListId) → s ≡ shape.Scalar spec start → list_given cs field ≡ item f l → Denotes h v (scalar_of by_number (list_given cs field))
      → Does h cs (accessed by_number (plain_layout (seen_shape g s)) f args l) (done.Reads v)
  unfolding accessed plain_layout
  scalar_accessed spec start v field e i d = record {
    lies = d.lies;
    is = ap (reads by_number) (d.is ∙ ap (scalar_of by_number) i) ∙ ap (λ t. accessed by_number (plain_layout (seen_shape g t)) f args l) (sym e);
  }

  pub element_accessed : (spec start : Word) (n : ℕ) (resizable : Bool) (field : Option ListId) (d : Done) → s ≡ shape.Array spec start n resizable → list_given cs field ≡ item f l
      → Does h cs (when by_number (is_index (argument by_number args 0) (size (list_given cs field))) (reads by_number (scalar_of by_number (item (natural_of (argument by_number args 0)) (list_given cs field))))) d
      → Does h cs (accessed by_number (plain_layout (seen_shape g s)) f args l) d
  unfolding accessed plain_layout
  element_accessed spec start n resizable field d e i j = record {
    lies = j.lies;
    is = j.is
        ∙ (ap (λ k. when by_number (is_index (argument by_number args 0) (size k)) (reads by_number (scalar_of by_number (item (natural_of (argument by_number args 0)) k)))) i
        ∙ ap (λ t. accessed by_number (plain_layout (seen_shape g t)) f args l) (sym e));
  }

  pub hash_accessed : (test : Test) → s ≡ shape.Hash test → Does h cs (accessed by_number (plain_layout (seen_shape g s)) f args l) done.Refuses
  unfolding accessed plain_layout
  hash_accessed test e = refused h cs _ (ap (λ t. accessed by_number (plain_layout (seen_shape g t)) f args l) (sym e))

  pub child_accessed : (x : SymId) → s ≡ shape.Child x → Does h cs (accessed by_number (plain_layout (seen_shape g s)) f args l) done.Refuses
  unfolding accessed plain_layout
  child_accessed x e = refused h cs _ (ap (λ t. accessed by_number (plain_layout (seen_shape g t)) f args l) (sym e))

  pub children_accessed : (x : SymId) (n : ℕ) → s ≡ shape.Children x n → Does h cs (accessed by_number (plain_layout (seen_shape g s)) f args l) done.Refuses
  unfolding accessed plain_layout
  children_accessed x n e = refused h cs _ (ap (λ t. accessed by_number (plain_layout (seen_shape g t)) f args l) (sym e))
