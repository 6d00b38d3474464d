mod LineByLine
mod OneReading
