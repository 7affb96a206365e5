-- Which package is to be the current one.
use Rattle.std.specs.Prelude.{◌≡◌, ℕ, List, [], ◌∷◌, Bool, true, false, Option, Some, None, option_map, option_and_then, refl}
use Rattle.std.specs.Str.{bytes_eq}
use Rattle.std.proofs.Common.{sym, ap, ◌∙◌, subst}
use Rattle.model_objects.specs.Object.{Object, Integer, Symbol, Text, Pair}
use Rattle.model_prims.specs.Kinds.{by_number, is_pair}
use Rattle.model_prims.specs.Lists.{is_true_list}
use Rattle.model_symbols.specs.Symbols.{Package, package_number}
use Rattle.model_symbols.specs.Opening.{hidden}
use Rattle.model_expansion.specs.Words.{in_package_word}
use Rattle.model_expansion.specs.Forms.{elements, text}
use Rattle.model_expansion.specs.Faults as faults
use Rattle.model_events.specs.Constants.{only_text, visible_package, current_read}
use Rattle.acl_base.specs.declared.PkgId.{PkgId}
use Rattle.acl_base.specs.declared.Word.{Word}
use Rattle.acl_heap.specs.Objects.{Objects, object_of, IsText}
use Rattle.acl_layers.specs.Lists.{items_along}
use Rattle.acl_layers.proofs.ListLemmas.{elements_are}
use Rattle.acl_packages.specs.Packages.{bytes_in}
use Rattle.acl_packages.specs.Current.{SeenText, GrantsCurrent, RefusesCurrent}

-- ---- a string alone

pub is_text : (o : Object ℕ) (bytes : List ℕ) → o ≡ Text bytes → text o ≡ Some (bytes_in o)
is_text o bytes e = rw e refl

pub text_bad : (o : Object ℕ) → is_true_list by_number o ≡ false → option_and_then only_text (elements o) ≡ None
text_bad o e = ap (option_and_then only_text) (elements_are o) ∙ rw e refl

whole : (o : Object ℕ) → is_true_list by_number o ≡ true → option_and_then only_text (elements o) ≡ only_text (items_along o)
whole o e = ap (option_and_then only_text) (elements_are o) ∙ rw e refl

several : (a d : Object ℕ) → is_pair d ≡ true → only_text (a ∷ items_along d) ≡ None
several a (Integer n) e = cc
several a (Symbol s) e = cc
several a (Text bytes) e = cc
several a (Pair b d) e = refl

alone : (a d : Object ℕ) → is_pair d ≡ false → only_text (a ∷ items_along d) ≡ text a
alone a (Integer n) e = refl
alone a (Symbol s) e = refl
alone a (Text bytes) e = refl
alone a (Pair b d) e = cc

pub text_more : (o a d : Object ℕ) → is_true_list by_number o ≡ true → o ≡ Pair a d → is_pair d ≡ true → option_and_then only_text (elements o) ≡ None
text_more o a d e f g = whole o e ∙ (ap (λ x. only_text (items_along x)) f ∙ several a d g)

pub text_only : (h : Objects) (r : Option Word) (o a d : Object ℕ) → is_true_list by_number o ≡ true → o ≡ Pair a d → is_pair d ≡ false → SeenText h r (text a) → SeenText h r (option_and_then only_text (elements o))
text_only h r o a d e f g s = subst (SeenText h r) (sym (whole o e ∙ (ap (λ x. only_text (items_along x)) f ∙ alone a d g))) s

pub text_end : (o : Object ℕ) → is_true_list by_number o ≡ true → items_along o ≡ [] → option_and_then only_text (elements o) ≡ None
text_end o e f = whole o e ∙ ap only_text f

-- ---- the package of a name

module _ (packages : List Package) where
  bytes_are : (o : Object ℕ) (bytes : List ℕ) → o ≡ Text bytes → bytes_in o ≡ bytes
  bytes_are o bytes e = rw e refl

  pub is_hidden : (o : Object ℕ) (bytes : List ℕ) → o ≡ Text bytes → bytes_eq bytes hidden ≡ true → None ≡ visible_package packages (bytes_in o)
  is_hidden o bytes e f = let g : bytes_eq (bytes_in o) hidden ≡ true = ap (λ bs. bytes_eq bs hidden) (bytes_are o bytes e) ∙ f in rw g refl

  pub not_hidden : (o : Object ℕ) (bytes : List ℕ) (r : Option ℕ) → o ≡ Text bytes → bytes_eq bytes hidden ≡ false → r ≡ package_number packages bytes → r ≡ visible_package packages (bytes_in o)
  not_hidden o bytes r e f g =
      let i : visible_package packages bytes ≡ package_number packages bytes = rw f refl in
      g ∙ (sym i ∙ ap (visible_package packages) (sym (bytes_are o bytes e)))

  module _ (d : Object ℕ) where
    pub shape_refused : option_and_then only_text (elements d) ≡ None → RefusesCurrent packages d (faults.Expand (faults.BadShape in_package_word))
    unfolding current_read
    shape_refused e = record { is = λ p. rw e refl }

    texts : (o : Object ℕ) → IsText o → o ≡ Text (bytes_in o)
    texts (Integer n) i = elim i [ ]
    texts (Symbol s) i = elim i [ ]
    texts (Text bytes) i = refl
    texts (Pair a d) i = elim i [ ]

    pub name_refused : (o : Object ℕ) (r : Option PkgId) → option_and_then only_text (elements d) ≡ Some (bytes_in o) → IsText o → r ≡ None → option_map (λ (p : PkgId). p.0) r ≡ visible_package packages (bytes_in o)
        → RefusesCurrent packages d (faults.UnknownPackage o)
    unfolding current_read
    name_refused o r e i g f =
        let v : visible_package packages (bytes_in o) ≡ None = sym f ∙ ap (option_map (λ (p : PkgId). p.0)) g in
        subst (λ x. RefusesCurrent packages d (faults.UnknownPackage x)) (sym (texts o i)) (record { is = λ p. rw (e, v) refl })

    pub current_granted : (o : Object ℕ) (r : Option PkgId) (n : PkgId) → option_and_then only_text (elements d) ≡ Some (bytes_in o) → r ≡ Some n → option_map (λ (p : PkgId). p.0) r ≡ visible_package packages (bytes_in o)
        → GrantsCurrent packages d n.0
    unfolding current_read
    current_granted o r n e g f =
        let v : visible_package packages (bytes_in o) ≡ Some n.0 = sym f ∙ ap (option_map (λ (p : PkgId). p.0)) g in
        record { is = λ p. rw (e, v) refl }
