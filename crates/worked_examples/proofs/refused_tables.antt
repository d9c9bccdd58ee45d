mod WrongTables
