-- What declarations say, one after another.
use Rattle.std.specs.Prelude.{◌≡◌, ℕ, ◌≤◌, List, [], ◌∷◌, ◌++◌, length, map, max, ℤ, Bool, true, false, nat_eq, Option, Some, None, option_map, option_and_then, refl, if◌then◌else◌}
use Rattle.std.proofs.Common.{sym, ap, ◌∙◌, append_assoc, arith}
use Rattle.std.proofs.lemmas.List.{append-nil, map-append}
use Rattle.model_objects.specs.Object.{Object, Integer, Symbol, Text, Pair}
use Rattle.model_expansion.specs.Layers as layers
use Rattle.model_expansion.specs.Forms.{symbol, each_of}
use Rattle.model_events.specs.Declarations as model
use Rattle.model_events.specs.Declarations.{both_declared, nothing_declared, stobjs_of}
use Rattle.acl_base.specs.declared.SymId.{SymId}
use Rattle.acl_heap.specs.Objects.{Objects, object_of, Extends}
use Rattle.acl_terms.specs.Forms.{numbers, most, seen_core}
use Rattle.acl_terms.specs.Growth.{seen_core-later}
use Rattle.acl_layers.proofs.BindingLemmas.{most_append}
use Rattle.acl_declare.specs.declared.said.GuardItem.{GuardItem}
use Rattle.acl_declare.specs.declared.said.GuardItem.TheVariants as item
use Rattle.acl_declare.specs.declared.said.Declared.{Declared}
use Rattle.acl_declare.specs.Said.{seen_item, seen_items, item_reach, items_reach, seen_declared, declared_reach, asks, names_stobjs, after_said}

-- ---- both

abbrev said : List layers.GuardItem → List ℕ → model.Declared
said gs xs = record { guards = gs; stobjs = xs }

pub both_assoc : (a d e : model.Declared) → both_declared (both_declared a d) e ≡ both_declared a (both_declared d e)
both_assoc a d e = rw (append_assoc a.guards d.guards e.guards, append_assoc a.stobjs d.stobjs e.stobjs) refl

pub both_nothing : (a : model.Declared) → both_declared a nothing_declared ≡ a
both_nothing a = rw (append-nil a.guards, append-nil a.stobjs) refl

abbrev pub joined : Option model.Declared → Option model.Declared → Option model.Declared
joined o p = option_and_then (λ d. option_map (both_declared d) p) o

pub after_both : (a b : model.Declared) (o p : Option model.Declared) → after_said a o ≡ Some b → after_said a (joined o p) ≡ after_said b p
after_both a b None p e = cc
after_both a b (Some d) None e = refl
after_both a b (Some d) (Some q) e =
    let f : both_declared a d ≡ b = cc in
    ap (λ x. Some x) (sym (both_assoc a d q) ∙ ap (λ x. both_declared x q) f)

pub after_none : (a : model.Declared) (o p : Option model.Declared) → after_said a o ≡ None → after_said a (joined o p) ≡ None
after_none a None p e = refl
after_none a (Some d) p e = cc

pub after_nothing : (a : model.Declared) → after_said a (Some nothing_declared) ≡ Some a
after_nothing a = ap (λ x. Some x) (both_nothing a)

pub from_nothing : (o : Option model.Declared) → after_said nothing_declared o ≡ o
from_nothing None = refl
from_nothing (Some d) = refl

-- ---- one thing more

pub asked : (h : Objects) (a b : Declared) (g : GuardItem) → b.guards ≡ a.guards ++ g ∷ [] → b.stobjs ≡ a.stobjs
    → seen_declared h b ≡ both_declared (seen_declared h a) (asks (seen_item h g))
asked h a b g e f = rw (e, f, map-append (seen_item h) a.guards (g ∷ []), append-nil (numbers a.stobjs)) refl

pub reach_asked : (gs : List GuardItem) (g : GuardItem) → items_reach (gs ++ g ∷ []) ≡ max (items_reach gs) (item_reach g)
reach_asked gs g = ap most (map-append item_reach gs (g ∷ [])) ∙ most_append (map item_reach gs) (item_reach g)

pub named : (h : Objects) (a b : Declared) (xs : List SymId) → b.guards ≡ a.guards → b.stobjs ≡ a.stobjs ++ xs
    → seen_declared h b ≡ both_declared (seen_declared h a) (names_stobjs (numbers xs))
named h a b xs e f = rw (e, f, map-append (λ (s : SymId). s.0) a.stobjs xs, append-nil (seen_items h a.guards)) refl

pub reach_named : (a b : Declared) → b.guards ≡ a.guards → declared_reach b ≡ declared_reach a
reach_named a b e = rw e refl

-- ---- as the heap grows

item_later : {h h' : Objects} → Extends h h' → (g : GuardItem) → item_reach g ≤ length h → seen_item h' g ≡ seen_item h g
item_later e (item.FormHolds w) l = ap layers.FormHolds (e.same w l)
item_later e (item.Meets f) l = ap layers.Meets (seen_core-later e f l)

items_later : {h h' : Objects} → Extends h h' → (gs : List GuardItem) → items_reach gs ≤ length h → seen_items h' gs ≡ seen_items h gs
items_later e [] l = refl
items_later e (g ∷ gs) l = rw (item_later e g (omega (arith, l)), items_later e gs (omega (arith, l))) refl

pub said_later : {h h' : Objects} → Extends h h' → (d : Declared) → declared_reach d ≤ length h → seen_declared h' d ≡ seen_declared h d
said_later e d l = ap (λ gs. said gs (numbers d.stobjs)) (items_later e d.guards l)

-- ---- stobjs

pub no_stobjs : (o : Object ℕ) (s : ℕ) → o ≡ Symbol s → s ≡ 1 → stobjs_of o ≡ Some []
no_stobjs o s e f = rw (e, f) refl

pub one_stobj : (o : Object ℕ) (s : SymId) (xs : List SymId) → o ≡ Symbol s.0 → nat_eq s.0 1 ≡ false → xs ≡ s ∷ [] → stobjs_of o ≡ Some (numbers xs)
one_stobj o s xs e f g = rw (e, f, g) refl

pub listed_stobjs : (o a d : Object ℕ) (xs : Option (List ℕ)) → o ≡ Pair a d → each_of symbol o ≡ xs → stobjs_of o ≡ xs
listed_stobjs o a d xs e f = let g : each_of symbol (Pair a d) ≡ xs = rw e at f in rw e g

pub integer_stobjs : (o : Object ℕ) (n : ℤ) → o ≡ Integer n → stobjs_of o ≡ None
integer_stobjs o n e = rw e refl

pub text_stobjs : (o : Object ℕ) (bytes : List ℕ) → o ≡ Text bytes → stobjs_of o ≡ None
text_stobjs o bytes e = rw e refl
