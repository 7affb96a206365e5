use Rattle.std.specs.Prelude.{List, ℕ, Some}
use Rattle.std.proofs.Common.{sym, ap, ◌∙◌, subst, inl, inr, refl}
use Rattle.std.specs.HashMap.{get_by}
use Rattle.std.specs.Str.{bytes_eq}
use Rattle.acl_syms.specs.Fields.{Learns}
use Rattle.acl_syms.proofs.Symbols.enter_import.Goals as goal

pub returns-then-first-s-clause-ok : goal.returns-then-first-s-clause-ok
returns-then-first-s-clause-ok c = inl (
  ap (λ (n : List ℕ). get_by (λ k. bytes_eq n k.items) c.args.known.now) (sym c.name-name.ensures) ∙ (sym c.in-Some.ensures.value ∙ ap (λ n. Some n) c.if-first-s.true),
  refl,
)

pub returns-in_ok-learn-in-None-clause-ok : goal.returns-in_ok-learn-in-None-clause-ok
returns-in_ok-learn-in-None-clause-ok c = inr (
  ap (λ (n : List ℕ). get_by (λ k. bytes_eq n k.items) c.args.known.now) (sym c.name-name.ensures) ∙ sym c.in-None.ensures.value,
  subst (λ (n : List ℕ). Learns (λ k. k.items) c.args.known.now c.learn.new.known n c.args.s.0) (c.in_ok-key-in-None.ensures.items ∙ c.name-name.ensures) c.in_ok-learn-in-None.ensures.learns,
)
