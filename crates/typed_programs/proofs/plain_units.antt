mod PlainRows
