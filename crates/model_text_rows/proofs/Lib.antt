mod TextRows
