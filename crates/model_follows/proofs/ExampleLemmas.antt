-- The example world.
use Rattle.std.proofs.Common.{◌≡◌, ℕ, ◌<◌, false, Option, Some, None, refl, arith}
use Rattle.std.specs.List.{AllByRecursion}
use Rattle.model_objects.specs.Object.{Object}
use Rattle.model_prims.specs.Kinds.{by_number}
use Rattle.model_lists.specs.Layouts.{Layout}
use Rattle.model_lists_laws.specs.Laws.{HasInitials}
use Rattle.model_terms.specs.Worlds.{World, Definition, definition, Primitive, Defined, Macro, Constant, Concrete, Generated, Abstract, OfAbstract, Named, Signed}
use Rattle.model_terms.specs.Accessors.{is_internal}
use Rattle.model_eval.specs.StobjLayouts.{defined_layout, layout_within, most_nested}
use Rattle.model_in_place.specs.Example.{world}
use Rattle.model_accepted.proofs.AcceptLemmas.{true_false}
use Rattle.model_in_place.proofs.ExampleLemmas.{found_one}
use Rattle.model_follows.specs.FollowedWorlds.{LayoutSymbols, IsMadeFor, IsSuited, AreSuited}
use Rattle.model_follows.specs.Example.{IsExampleFollowed}

abbrev IsReady : World → ℕ → Definition → Type 0
IsReady w n (Primitive name row) = Unit {0}
IsReady w n (Defined f) = IsSuited w n f.guard × IsSuited w n f.body
IsReady w n (Macro name formals body) = Unit {0}
IsReady w n (Constant name value) = Unit {0}
IsReady w n (Concrete d class) = Unit {0}
IsReady w n (Generated g) = is_internal w (Generated g) ≡ false → IsMadeFor w g
IsReady w n (Abstract d) = Unit {0}
IsReady w n (OfAbstract f) = ⊥
IsReady w n (Named name formals) = Unit {0}
IsReady w n (Signed name formals signature executable) = Unit {0}

-- the layout that a definition gives
abbrev layout_by : World → Option Definition → Layout ℕ
layout_by w d = defined_layout (λ (o : Object ℕ). o) (layout_within (λ (o : Object ℕ). o) w most_nested) d

abbrev HasLayout : World → ℕ → Definition → Type 0
HasLayout w n d = LayoutSymbols (λ s. s < n) (layout_by w (Some d)) × HasInitials by_number (layout_by w (Some d))

pub example_followed : IsExampleFollowed
unfolding layout_within IsSuited AreSuited
example_followed = record {
  followed = record {
    functions = λ x f e r. found_one (IsReady world 200) world x (Defined f) ready e;
    made = λ x g e i. found_one (IsReady world 200) world x (Generated g) ready e i;
    layouts = λ x. (layouts x (definition world x) refl).0;
    initials = λ x. (layouts x (definition world x) refl).1;
    concrete = λ x f e. found_one (IsReady world 200) world x (OfAbstract f) ready e;
  };
}
  where
    ready : AllByRecursion (IsReady world 200) world
    ready = (tt, ((λ i. record { ins = refl; suits = tt }), ((λ i. record { ins = refl; suits = tt }), (tt, ((λ i. true_false i), ((λ i. true_false i), (((omega arith), ((tt, (tt, tt)), tt)), tt)))))))

    layouts : (x : ℕ) (d : Option Definition) → definition world x ≡ d → LayoutSymbols (λ s. s < 200) (layout_by world d) × HasInitials by_number (layout_by world d)
    layouts x None e = (tt, tt)
    layouts x (Some d) e = found_one (HasLayout world 200) world x d all e
      where
        all : AllByRecursion (HasLayout world 200) world
        all = ((((tt, tt), tt), (refl, tt)), ((tt, tt), ((tt, tt), (((((tt, tt), tt), tt), ((refl, tt), tt)), ((tt, tt), ((tt, tt), ((tt, tt), tt)))))))
