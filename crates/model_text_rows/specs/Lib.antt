pub mod TextRows
