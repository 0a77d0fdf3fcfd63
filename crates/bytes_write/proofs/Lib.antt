mod Writing
