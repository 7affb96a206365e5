-- Functions that are small enough, one after another.
use Rattle.std.specs.Prelude.{◌≡◌, ℕ, ◌+◌, ◌<◌, ◌≤◌, List, length, drop, true, ◌&&◌, refl}
use Rattle.std.specs.List.{list_all}
use Rattle.std.proofs.Common.{get_or}
use Rattle.std.proofs.Math.ListN.{drop_of_length-le}
use Rattle.std.proofs.lemmas.List.{length-map}
use Rattle.acl_heap.specs.Objects.{Objects}
use Rattle.acl_check.specs.declared.member.Member.{Member}
use Rattle.acl_check.specs.Members.{seen_member, seen_members}
use Rattle.acl_outputs.proofs.ListLemmas.{left_at}
use Rattle.acl_admit.specs.Ready.{is_ready}

pub ready_step : (h : Objects) (ms : List Member) (i : ℕ) (d : Member) → i < length ms
    → list_all is_ready (seen_members h (drop i ms)) ≡ (is_ready (seen_member h (get_or ms i d)) && list_all is_ready (seen_members h (drop (i + 1) ms)))
ready_step h ms i d l = rw (left_at ms i d l) refl

pub ready_end : (h : Objects) (ms : List Member) (i : ℕ) → length ms ≤ i → list_all is_ready (seen_members h (drop i ms)) ≡ true
ready_end h ms i l = rw (drop_of_length-le ms l) refl

pub as_many : (h : Objects) (ms : List Member) → length (seen_members h ms) ≡ length ms
as_many h ms = length-map ms (seen_member h)
