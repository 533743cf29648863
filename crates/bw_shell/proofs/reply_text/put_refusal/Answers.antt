use Rattle.bw_shell.proofs.reply_text.put_refusal.Goals as goal

pub returns-in-Syntax : goal.returns-in-Syntax
returns-in-Syntax g c = rw c.in-Syntax.is c.put.ensures

pub returns-in-StatementTooLong : goal.returns-in-StatementTooLong
returns-in-StatementTooLong g c = rw c.in-StatementTooLong.is c.put-in-StatementTooLong.ensures

pub returns-in-NestedTooDeeply : goal.returns-in-NestedTooDeeply
returns-in-NestedTooDeeply g c = rw c.in-NestedTooDeeply.is c.put-in-NestedTooDeeply.ensures

pub returns-in-NumberTooLarge : goal.returns-in-NumberTooLarge
returns-in-NumberTooLarge g c = rw c.in-NumberTooLarge.is c.put-in-NumberTooLarge.ensures

pub returns-in-NoSuchTable : goal.returns-in-NoSuchTable
returns-in-NoSuchTable g c = rw c.in-NoSuchTable.is c.put-in-NoSuchTable.ensures

pub returns-in-TableExists : goal.returns-in-TableExists
returns-in-TableExists g c = rw c.in-TableExists.is c.put-in-TableExists.ensures

pub returns-in-NoSuchColumn : goal.returns-in-NoSuchColumn
returns-in-NoSuchColumn g c = rw c.in-NoSuchColumn.is c.put-in-NoSuchColumn.ensures

pub returns-in-ColumnNamedTwice : goal.returns-in-ColumnNamedTwice
returns-in-ColumnNamedTwice g c = rw c.in-ColumnNamedTwice.is c.put-in-ColumnNamedTwice.ensures

pub returns-in-OverLimit : goal.returns-in-OverLimit
returns-in-OverLimit g c = rw c.in-OverLimit.is c.put-in-OverLimit.ensures

pub returns-in-WrongNumberOfValues : goal.returns-in-WrongNumberOfValues
returns-in-WrongNumberOfValues g c = rw c.in-WrongNumberOfValues.is c.put-in-WrongNumberOfValues.ensures

pub returns-in-OutOfRange : goal.returns-in-OutOfRange
returns-in-OutOfRange g c = rw c.in-OutOfRange.is c.put-in-OutOfRange.ensures

pub returns-in-MixedItems : goal.returns-in-MixedItems
returns-in-MixedItems g c = rw c.in-MixedItems.is c.put-in-MixedItems.ensures

pub returns-in-TableFull : goal.returns-in-TableFull
returns-in-TableFull g c = rw c.in-TableFull.is c.put-in-TableFull.ensures

pub returns-in-UnreadableFile : goal.returns-in-UnreadableFile
returns-in-UnreadableFile g c = rw c.in-UnreadableFile.is c.put-in-UnreadableFile.ensures

pub returns-in-UnwritableFile : goal.returns-in-UnwritableFile
returns-in-UnwritableFile g c = rw c.in-UnwritableFile.is c.put-in-UnwritableFile.ensures

pub returns-in-NotTableFile : goal.returns-in-NotTableFile
returns-in-NotTableFile g c = rw c.in-NotTableFile.is c.put-in-NotTableFile.ensures

pub returns-in-FileTooLarge : goal.returns-in-FileTooLarge
returns-in-FileTooLarge g c = rw c.in-FileTooLarge.is c.put-in-FileTooLarge.ensures

pub returns-in-LayoutTooNarrow : goal.returns-in-LayoutTooNarrow
returns-in-LayoutTooNarrow g c = rw c.in-LayoutTooNarrow.is c.put-in-LayoutTooNarrow.ensures

pub returns-in-OutOfMemory : goal.returns-in-OutOfMemory
returns-in-OutOfMemory g c = rw c.in-OutOfMemory.is c.put-in-OutOfMemory.ensures
