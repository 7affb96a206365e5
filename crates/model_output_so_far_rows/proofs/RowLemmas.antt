-- The definitions, computed.
use Rattle.std.specs.Prelude.{refl}
use Rattle.std.specs.Fmt.{digits}
use Rattle.model_symbols.specs.Opening.{opening, common_lisp_text, acl2_text, common_lisp_symbols, acl2_symbols, acl2_package}
use Rattle.model_text.specs.Token.{token_of}
use Rattle.model_text.specs.Next.{next_at, step}
use Rattle.model_prims.specs.Rows.{table}
use Rattle.model_prims.specs.Guards.{guard, recognizer_guard, relation_guard, arithmetic_guard, listing_guard, naming_guard}
use Rattle.model_prims.specs.Values.{wanted, recognized, related, computed, listed, named_by}
use Rattle.model_prims.specs.Applied.{applied_to, bounded}
use Rattle.model_output_so_far.specs.Reserved.{reserved_lisp, reserved_own, is_reserved}
use Rattle.model_output_so_far.specs.Commands.{command_of}
use Rattle.model_output_so_far.specs.Running.{run}
use Rattle.model_output_so_far.specs.Output.{output, summary_text}
use Rattle.model_output_so_far_rows.specs.Rows as books

empty : books.Empty
unfolding common_lisp_text acl2_text common_lisp_symbols acl2_symbols acl2_package opening next_at step token_of command_of run output summary_text digits reserved_lisp reserved_own is_reserved table guard recognizer_guard relation_guard arithmetic_guard listing_guard naming_guard wanted recognized related computed listed named_by applied_to bounded
empty = refl

three_commands : books.ThreeCommands
unfolding common_lisp_text acl2_text common_lisp_symbols acl2_symbols acl2_package opening next_at step token_of command_of run output summary_text digits reserved_lisp reserved_own is_reserved table guard recognizer_guard relation_guard arithmetic_guard listing_guard naming_guard wanted recognized related computed listed named_by applied_to bounded
three_commands = refl

guard_violation : books.GuardViolation
unfolding common_lisp_text acl2_text common_lisp_symbols acl2_symbols acl2_package opening next_at step token_of command_of run output summary_text digits reserved_lisp reserved_own is_reserved table guard recognizer_guard relation_guard arithmetic_guard listing_guard naming_guard wanted recognized related computed listed named_by applied_to bounded
guard_violation = refl

no_object : books.NoObject
unfolding common_lisp_text acl2_text common_lisp_symbols acl2_symbols acl2_package opening next_at step token_of command_of run output summary_text digits reserved_lisp reserved_own is_reserved table guard recognizer_guard relation_guard arithmetic_guard listing_guard naming_guard wanted recognized related computed listed named_by applied_to bounded
no_object = refl

a_string : books.AString
unfolding common_lisp_text acl2_text common_lisp_symbols acl2_symbols acl2_package opening next_at step token_of command_of run output summary_text digits reserved_lisp reserved_own is_reserved table guard recognizer_guard relation_guard arithmetic_guard listing_guard naming_guard wanted recognized related computed listed named_by applied_to bounded
a_string = refl

two_fields : books.TwoFields
unfolding common_lisp_text acl2_text common_lisp_symbols acl2_symbols acl2_package opening next_at step token_of command_of run output summary_text digits reserved_lisp reserved_own is_reserved table guard recognizer_guard relation_guard arithmetic_guard listing_guard naming_guard wanted recognized related computed listed named_by applied_to bounded
two_fields = refl

quoted_constants : books.QuotedConstants
unfolding common_lisp_text acl2_text common_lisp_symbols acl2_symbols acl2_package opening next_at step token_of command_of run output summary_text digits reserved_lisp reserved_own is_reserved table guard recognizer_guard relation_guard arithmetic_guard listing_guard naming_guard wanted recognized related computed listed named_by applied_to bounded
quoted_constants = refl

hexadecimal : books.Hexadecimal
unfolding common_lisp_text acl2_text common_lisp_symbols acl2_symbols acl2_package opening next_at step token_of command_of run output summary_text digits reserved_lisp reserved_own is_reserved table guard recognizer_guard relation_guard arithmetic_guard listing_guard naming_guard wanted recognized related computed listed named_by applied_to bounded
hexadecimal = refl

widest_integers : books.WidestIntegers
unfolding common_lisp_text acl2_text common_lisp_symbols acl2_symbols acl2_package opening next_at step token_of command_of run output summary_text digits reserved_lisp reserved_own is_reserved table guard recognizer_guard relation_guard arithmetic_guard listing_guard naming_guard wanted recognized related computed listed named_by applied_to bounded
widest_integers = refl

pub are_written : books.AreWritten
are_written = record { empty = empty; three_commands = three_commands; guard_violation = guard_violation; no_object = no_object; a_string = a_string; two_fields = two_fields; quoted_constants = quoted_constants; hexadecimal = hexadecimal; widest_integers = widest_integers }

odd_commands : books.OddCommands
unfolding common_lisp_text acl2_text common_lisp_symbols acl2_symbols acl2_package opening next_at step token_of command_of run output summary_text digits reserved_lisp reserved_own is_reserved table guard recognizer_guard relation_guard arithmetic_guard listing_guard naming_guard wanted recognized related computed listed named_by applied_to bounded
odd_commands = refl

pub are_mixed : books.AreMixed
are_mixed = record { odd_commands = odd_commands }

bad_names : books.BadNames
unfolding common_lisp_text acl2_text common_lisp_symbols acl2_symbols acl2_package opening next_at step token_of command_of run output summary_text digits reserved_lisp reserved_own is_reserved table guard recognizer_guard relation_guard arithmetic_guard listing_guard naming_guard wanted recognized related computed listed named_by applied_to bounded
bad_names = refl

primitive_in_use : books.PrimitiveInUse
unfolding common_lisp_text acl2_text common_lisp_symbols acl2_symbols acl2_package opening next_at step token_of command_of run output summary_text digits reserved_lisp reserved_own is_reserved table guard recognizer_guard relation_guard arithmetic_guard listing_guard naming_guard wanted recognized related computed listed named_by applied_to bounded
primitive_in_use = refl

name_twice : books.NameTwice
unfolding common_lisp_text acl2_text common_lisp_symbols acl2_symbols acl2_package opening next_at step token_of command_of run output summary_text digits reserved_lisp reserved_own is_reserved table guard recognizer_guard relation_guard arithmetic_guard listing_guard naming_guard wanted recognized related computed listed named_by applied_to bounded
name_twice = refl

known_name_free : books.KnownNameFree
unfolding common_lisp_text acl2_text common_lisp_symbols acl2_symbols acl2_package opening next_at step token_of command_of run output summary_text digits reserved_lisp reserved_own is_reserved table guard recognizer_guard relation_guard arithmetic_guard listing_guard naming_guard wanted recognized related computed listed named_by applied_to bounded
known_name_free = refl

bad_name_before_name_in_use : books.BadNameBeforeNameInUse
unfolding common_lisp_text acl2_text common_lisp_symbols acl2_symbols acl2_package opening next_at step token_of command_of run output summary_text digits reserved_lisp reserved_own is_reserved table guard recognizer_guard relation_guard arithmetic_guard listing_guard naming_guard wanted recognized related computed listed named_by applied_to bounded
bad_name_before_name_in_use = refl

other_definitions : books.OtherDefinitions
unfolding common_lisp_text acl2_text common_lisp_symbols acl2_symbols acl2_package opening next_at step token_of command_of run output summary_text digits reserved_lisp reserved_own is_reserved table guard recognizer_guard relation_guard arithmetic_guard listing_guard naming_guard wanted recognized related computed listed named_by applied_to bounded
other_definitions = refl

pub are_named : books.AreNamed
are_named = record { bad_names = bad_names; primitive_in_use = primitive_in_use; name_twice = name_twice; known_name_free = known_name_free; bad_name_before_name_in_use = bad_name_before_name_in_use; other_definitions = other_definitions }

packages : books.Packages
unfolding common_lisp_text acl2_text common_lisp_symbols acl2_symbols acl2_package opening next_at step token_of command_of run output summary_text digits reserved_lisp reserved_own is_reserved table guard recognizer_guard relation_guard arithmetic_guard listing_guard naming_guard wanted recognized related computed listed named_by applied_to bounded
packages = refl

other_package : books.OtherPackage
unfolding common_lisp_text acl2_text common_lisp_symbols acl2_symbols acl2_package opening next_at step token_of command_of run output summary_text digits reserved_lisp reserved_own is_reserved table guard recognizer_guard relation_guard arithmetic_guard listing_guard naming_guard wanted recognized related computed listed named_by applied_to bounded
other_package = refl

misshapen_packages : books.MisshapenPackages
unfolding common_lisp_text acl2_text common_lisp_symbols acl2_symbols acl2_package opening next_at step token_of command_of run output summary_text digits reserved_lisp reserved_own is_reserved table guard recognizer_guard relation_guard arithmetic_guard listing_guard naming_guard wanted recognized related computed listed named_by applied_to bounded
misshapen_packages = refl

pub are_packages : books.ArePackages
are_packages = record { packages = packages; other_package = other_package; misshapen_packages = misshapen_packages }

primitives : books.Primitives
unfolding common_lisp_text acl2_text common_lisp_symbols acl2_symbols acl2_package opening next_at step token_of command_of run output summary_text digits reserved_lisp reserved_own is_reserved table guard recognizer_guard relation_guard arithmetic_guard listing_guard naming_guard wanted recognized related computed listed named_by applied_to bounded
primitives = refl

more_primitives : books.MorePrimitives
unfolding common_lisp_text acl2_text common_lisp_symbols acl2_symbols acl2_package opening next_at step token_of command_of run output summary_text digits reserved_lisp reserved_own is_reserved table guard recognizer_guard relation_guard arithmetic_guard listing_guard naming_guard wanted recognized related computed listed named_by applied_to bounded
more_primitives = refl

field_over_primitive : books.FieldOverPrimitive
unfolding common_lisp_text acl2_text common_lisp_symbols acl2_symbols acl2_package opening next_at step token_of command_of run output summary_text digits reserved_lisp reserved_own is_reserved table guard recognizer_guard relation_guard arithmetic_guard listing_guard naming_guard wanted recognized related computed listed named_by applied_to bounded
field_over_primitive = refl

pub are_calls : books.AreCalls
are_calls = record { primitives = primitives; more_primitives = more_primitives; field_over_primitive = field_over_primitive }

open_list : books.OpenList
unfolding common_lisp_text acl2_text common_lisp_symbols acl2_symbols acl2_package opening next_at step token_of command_of run output summary_text digits reserved_lisp reserved_own is_reserved table guard recognizer_guard relation_guard arithmetic_guard listing_guard naming_guard wanted recognized related computed listed named_by applied_to bounded
open_list = refl

stray_close : books.StrayClose
unfolding common_lisp_text acl2_text common_lisp_symbols acl2_symbols acl2_package opening next_at step token_of command_of run output summary_text digits reserved_lisp reserved_own is_reserved table guard recognizer_guard relation_guard arithmetic_guard listing_guard naming_guard wanted recognized related computed listed named_by applied_to bounded
stray_close = refl

literal_too_wide : books.LiteralTooWide
unfolding common_lisp_text acl2_text common_lisp_symbols acl2_symbols acl2_package opening next_at step token_of command_of run output summary_text digits reserved_lisp reserved_own is_reserved table guard recognizer_guard relation_guard arithmetic_guard listing_guard naming_guard wanted recognized related computed listed named_by applied_to bounded
literal_too_wide = refl

bad_dot : books.BadDot
unfolding common_lisp_text acl2_text common_lisp_symbols acl2_symbols acl2_package opening next_at step token_of command_of run output summary_text digits reserved_lisp reserved_own is_reserved table guard recognizer_guard relation_guard arithmetic_guard listing_guard naming_guard wanted recognized related computed listed named_by applied_to bounded
bad_dot = refl

comma_outside : books.CommaOutside
unfolding common_lisp_text acl2_text common_lisp_symbols acl2_symbols acl2_package opening next_at step token_of command_of run output summary_text digits reserved_lisp reserved_own is_reserved table guard recognizer_guard relation_guard arithmetic_guard listing_guard naming_guard wanted recognized related computed listed named_by applied_to bounded
comma_outside = refl

ratio : books.Ratio
unfolding common_lisp_text acl2_text common_lisp_symbols acl2_symbols acl2_package opening next_at step token_of command_of run output summary_text digits reserved_lisp reserved_own is_reserved table guard recognizer_guard relation_guard arithmetic_guard listing_guard naming_guard wanted recognized related computed listed named_by applied_to bounded
ratio = refl

unknown_package : books.UnknownPackage
unfolding common_lisp_text acl2_text common_lisp_symbols acl2_symbols acl2_package opening next_at step token_of command_of run output summary_text digits reserved_lisp reserved_own is_reserved table guard recognizer_guard relation_guard arithmetic_guard listing_guard naming_guard wanted recognized related computed listed named_by applied_to bounded
unknown_package = refl

open_string : books.OpenString
unfolding common_lisp_text acl2_text common_lisp_symbols acl2_symbols acl2_package opening next_at step token_of command_of run output summary_text digits reserved_lisp reserved_own is_reserved table guard recognizer_guard relation_guard arithmetic_guard listing_guard naming_guard wanted recognized related computed listed named_by applied_to bounded
open_string = refl

bad_byte : books.BadByte
unfolding common_lisp_text acl2_text common_lisp_symbols acl2_symbols acl2_package opening next_at step token_of command_of run output summary_text digits reserved_lisp reserved_own is_reserved table guard recognizer_guard relation_guard arithmetic_guard listing_guard naming_guard wanted recognized related computed listed named_by applied_to bounded
bad_byte = refl

too_deep : books.TooDeep
unfolding common_lisp_text acl2_text common_lisp_symbols acl2_symbols acl2_package opening next_at step token_of command_of run output summary_text digits reserved_lisp reserved_own is_reserved table guard recognizer_guard relation_guard arithmetic_guard listing_guard naming_guard wanted recognized related computed listed named_by applied_to bounded
too_deep = refl

pub end_in_faults : books.EndInFaults
end_in_faults = record { open_list = open_list; stray_close = stray_close; literal_too_wide = literal_too_wide; bad_dot = bad_dot; comma_outside = comma_outside; ratio = ratio; unknown_package = unknown_package; open_string = open_string; bad_byte = bad_byte; too_deep = too_deep }
