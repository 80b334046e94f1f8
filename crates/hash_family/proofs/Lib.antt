mod Reciprocals
