-- Nodes in memory as nodes by their numbers.
use Rattle.std.specs.Prelude.{List, map}
use Rattle.acl_nodes.specs.Nodes.{Part, Node}
use Rattle.acl_fields.specs.Fields.{Field}
use Rattle.acl_fields.specs.Parts.{part_of}
use Rattle.acl_fields.specs.declared.node.Node.{Node as Memory}

abbrev pub parts_of : Memory → List (Part Field)
parts_of n = map part_of n.slots.items

abbrev pub node_of : Memory → Node Field
node_of n = record { layout = n.layout.0; parts = parts_of n }

abbrev pub view : List Memory → List (Node Field)
view ns = map node_of ns
