-- What is left of the line, field by field; and the functions of src/lib.rt meet their contracts, each in a folder of its name.
mod Entries
