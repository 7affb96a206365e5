-- Keys of XARGS with their values.
use Rattle.std.specs.Prelude.{◌≡◌, ℕ, List, [], ◌∷◌, Bool, true, false, Option, Some, None, option_map, codes, refl, if◌then◌else◌}
use Rattle.std.proofs.Common.{sym, ap, ◌∙◌}
use Rattle.model_objects.specs.Object.{Object, Pair}
use Rattle.model_symbols.specs.Symbols.{QualifiedName}
use Rattle.model_expansion.specs.Forms.{is_keyword_object, is_key}
use Rattle.model_expansion.specs.Layers as layers
use Rattle.model_events.specs.Declarations.{Declared, both_declared, nothing_declared, stobjs_of, keyed_declared, xargs_declared}
use Rattle.acl_layers.specs.Lists.{items_along}
use Rattle.acl_declare.specs.Said.{asks, names_stobjs, after_said}
use Rattle.acl_declare.proofs.SaidLemmas.{joined, after_both, after_none, after_nothing}

module _ (sy : List QualifiedName) (a : Declared) where
  pub keyed_none : (k v : Object ℕ) → is_keyword_object sy k ≡ false → after_said a (keyed_declared sy k v) ≡ None
  keyed_none k v e = rw e refl

  pub keyed_guard : (k v : Object ℕ) → is_keyword_object sy k ≡ true → is_key sy (codes "GUARD") k ≡ true → after_said a (keyed_declared sy k v) ≡ Some (both_declared a (asks (layers.FormHolds v)))
  keyed_guard k v e f = rw (e, f) refl

  pub keyed_other : (k v : Object ℕ) → is_keyword_object sy k ≡ true → is_key sy (codes "GUARD") k ≡ false → is_key sy (codes "STOBJS") k ≡ false → after_said a (keyed_declared sy k v) ≡ Some a
  keyed_other k v e f g = rw (e, f, g) (after_nothing a)

  pub keyed_wrong : (k v : Object ℕ) → is_keyword_object sy k ≡ true → is_key sy (codes "GUARD") k ≡ false → is_key sy (codes "STOBJS") k ≡ true → stobjs_of v ≡ None
      → after_said a (keyed_declared sy k v) ≡ None
  keyed_wrong k v e f g n = rw (e, f, g, n) refl

  pub keyed_stobjs : (k v : Object ℕ) (xs : List ℕ) → is_keyword_object sy k ≡ true → is_key sy (codes "GUARD") k ≡ false → is_key sy (codes "STOBJS") k ≡ true → stobjs_of v ≡ Some xs
      → after_said a (keyed_declared sy k v) ≡ Some (both_declared a (names_stobjs xs))
  keyed_stobjs k v xs e f g n = rw (e, f, g, n) refl

  -- ---- all of them

  pub xargs_more : (b : Declared) (r : Bool) (o k d v e : Object ℕ) → o ≡ Pair k d → d ≡ Pair v e
      → after_said a (keyed_declared sy k v) ≡ (if r then Some b else None) → r ≡ true
      → after_said a (xargs_declared sy (items_along o)) ≡ after_said b (xargs_declared sy (items_along e))
  xargs_more b r o k d v e f g i t =
      let is : after_said a (keyed_declared sy k v) ≡ Some b = rw t at i in
      rw (f, g) (after_both a b (keyed_declared sy k v) (xargs_declared sy (items_along e)) is)

  pub xargs_wrong : (b : Declared) (r : Bool) (o k d v e : Object ℕ) → o ≡ Pair k d → d ≡ Pair v e
      → after_said a (keyed_declared sy k v) ≡ (if r then Some b else None) → r ≡ false
      → after_said a (xargs_declared sy (items_along o)) ≡ None
  xargs_wrong b r o k d v e f g i t =
      let is : after_said a (keyed_declared sy k v) ≡ None = rw t at i in
      rw (f, g) (after_none a (keyed_declared sy k v) (xargs_declared sy (items_along e)) is)

  pub xargs_odd : (o k d : Object ℕ) → o ≡ Pair k d → items_along d ≡ [] → after_said a (xargs_declared sy (items_along o)) ≡ None
  xargs_odd o k d f g = rw (f, g) refl

  pub xargs_end : (os : List (Object ℕ)) → os ≡ [] → after_said a (xargs_declared sy os) ≡ Some a
  xargs_end os e = rw e (after_nothing a)
